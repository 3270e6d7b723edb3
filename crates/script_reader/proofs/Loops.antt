-- Loops over the words that are left, a word at a time: for `first_misfit`.
use Rattle.std.specs.Prelude.{◌≡◌, ℕ, ◌+◌, Bool, true, false, not, ◌||◌, ◌==◌, if◌then◌else◌, List, [], ◌∷◌, ◌++◌, count_by, Option, Some, None, refl}
use Rattle.std.specs.List.{list_any}
use Rattle.std.proofs.Common.{sym, ◌∙◌, ap}
use Rattle.script_reader.specs.declared.Group.TheVariants.{Out, In}
use Rattle.script_reader.specs.Words.{is_out, is_in, group_of}
use Rattle.script_reader.specs.Edges.{is_colon, has_group, is_misfit, first_misfit}
use Rattle.script_reader.specs.Scan.{is_misfit_after}

-- the first misfit, by which of the group words stood before
abbrev pub misfit_from : Bool → Bool → ℕ → List (List ℕ) → Option ℕ
misfit_from has_out has_in place [] = None
misfit_from has_out has_in place (w ∷ ws) =
    if is_misfit_after has_out has_in w then Some place else misfit_from (has_out || is_out w) (has_in || is_in w)
    (place + 1) ws

any-push : (p : List ℕ → Bool) (ws : List (List ℕ)) (w : List ℕ) → list_any p (ws ++ w ∷ []) ≡ (list_any p ws || p w)
any-push p [] w = or_false (p w)
  where
    or_false : (b : Bool) → (b || false) ≡ b
    or_false true = refl
    or_false false = refl
any-push p (v ∷ ws) w = ap (λ b. p v || b) (any-push p ws w) ∙ or_assoc (p v) (list_any p ws) (p w)
  where
    or_assoc : (a b c : Bool) → (a || (b || c)) ≡ ((a || b) || c)
    or_assoc true b c = refl
    or_assoc false b c = refl

same_misfit : (before : List (List ℕ)) (w : List ℕ)
    → is_misfit (group_of w) before w ≡ is_misfit_after (has_group Out before) (has_group In before) w
same_misfit before w = at (is_out w) (is_in w)
  where
    at : (o i : Bool) → is_misfit (if o then Some Out else (if i then Some In else None)) before w ≡
        (if o then has_group Out before else
        (if i then has_group In before else not (has_group Out before || has_group In before) || not
        (count_by is_colon w == 1)))
    at true i = refl
    at false true = refl
    at false false = refl

misfit_from_is : (before : List (List ℕ)) (place : ℕ) (ws : List (List ℕ))
    → misfit_from (has_group Out before) (has_group In before) place ws ≡ first_misfit before place ws
misfit_from_is before place [] = refl
misfit_from_is before place (w ∷ ws) =
    let rest : misfit_from (has_group Out before || is_out w) (has_group In before || is_in w) (place + 1) ws ≡
    first_misfit (before ++ w ∷ []) (place + 1) ws =
    ap (λ b. misfit_from b (has_group In before || is_in w) (place + 1) ws) (sym (any-push is_out before w))
    ∙ ap (λ b. misfit_from (list_any is_out (before ++ w ∷ [])) b (place + 1) ws) (sym (any-push is_in before w))
    ∙ misfit_from_is (before ++ w ∷ []) (place + 1) ws in
    ap (λ o. if is_misfit_after (has_group Out before) (has_group In before) w then Some place else o) rest
    ∙ ap (λ b. if b then Some place else first_misfit (before ++ w ∷ []) (place + 1) ws) (sym (same_misfit before w))

-- before the first word the search for a misfit is that of all words
pub misfit_none : (place : ℕ) (ws : List (List ℕ)) → misfit_from false false place ws ≡ first_misfit [] place ws
misfit_none place ws = misfit_from_is [] place ws

-- .. and behind a word that fits it is that of the words that are left
pub misfit_more : (o i : Bool) (place : ℕ) (ws : List (List ℕ)) (w : List ℕ) (rest : List (List ℕ)) (next : ℕ)
    → ws ≡ w ∷ rest → next ≡ place + 1 → is_misfit_after o i w ≡ false
    → misfit_from (o || is_out w) (i || is_in w) next rest ≡ misfit_from o i place ws
misfit_more o i place ws w rest next e n fits =
    ap (λ k. misfit_from (o || is_out w) (i || is_in w) k rest) n
    ∙ ap (λ b. if b then Some place else misfit_from (o || is_out w) (i || is_in w) (place + 1) rest) (sym fits)
    ∙ ap (misfit_from o i place) (sym e)
