use Rattle.std.proofs.Common.{◌≡◌, ℕ, ◌-◌, List, length, take, drop, map, Global, ap, sym, ◌∙◌}
use Rattle.std.specs.Prelude.{string_bytes}
use Rattle.command_line.specs.Words.{load_of, drawn_of}
use Rattle.command_line.proofs.Options.{two_first}
use Rattle.command_line.proofs.words.load_mode.Goals as goal

same_mode : (a b c d : List ℕ) (rest : List (List ℕ)) → a ≡ c → b ≡ d → drawn_of a b rest ≡ drawn_of c d rest
same_mode a b c d rest p q = λ i. drawn_of (p i) (q i) rest

pub returns-in-len2-up-clause-mode : goal.returns-in-len2-up-clause-mode
returns-in-len2-up-clause-mode c =
    c.drawn_mode.ensures.mode ∙ same_mode _ _ _ _
    (map (string_bytes {Z = Global}) (take (length c.args.words.now - 2) (drop 2 c.args.words.now)))
    c.as_str.ensures.value c.as_str-in-len2-up.ensures.value
    ∙ sym (ap load_of (two_first (string_bytes {Z = Global}) c.args.words.now _ _ c.n-item.is c.seed-item.is
    c.in-len2-up.len_at_least))
