-- Ways over the ends of a vertex's edges.
use Rattle.std.specs.Prelude.{◌≡◌, ℕ, ◌<◌, false, List, length, slice_index}
use Rattle.std.specs.declared.cmp.Ordering.TheVariants.{Less}
use Rattle.std.proofs.Common.{sym, subst}
use Rattle.apsp_model.specs.Stated.{Stated, Entry as Stated_entry, IsWay, through, entry_cmp}
use Rattle.version_face.specs.declared.Entry.{Entry}
use Rattle.version_face.specs.Entries.{stated}
use Rattle.cert_check.specs.Pairs.{AreEnds, IsSmallerAnswer, IsMissingAnswer}

-- over none of the first k ends
abbrev pub NoneSmaller : Stated → ℕ → ℕ → Entry → List ℕ → ℕ → Type 0
NoneSmaller s x y e ends k =
    (i w : ℕ) (d : Stated_entry) → i < k → IsWay s x (slice_index ends i) y w d
    → entry_cmp (through (slice_index ends i) w d) (stated e) ≡ Less → ⊥

abbrev pub NoWay : Stated → ℕ → ℕ → List ℕ → ℕ → Type 0
NoWay s x y ends k = (i w : ℕ) (d : Stated_entry) → i < k → IsWay s x (slice_index ends i) y w d → ⊥

pub none_smaller : (s : Stated) (x y n : ℕ) (e : Entry) (ends : List ℕ) → AreEnds s x n ends
    → NoneSmaller s x y e ends (length ends) → IsSmallerAnswer s x y e n false
none_smaller s x y n e ends are none u w d p way less =
    let at = are.all u w p way.edge in
    let F : ℕ → Type 0 = λ j. IsWay s x j y w d in
    let G : ℕ → Type 0 = λ j. entry_cmp (through j w d) (stated e) ≡ Less in
    none at.0 w d at.1 (subst F (sym at.2) way) (subst G (sym at.2) less)

pub no_way : (s : Stated) (x y n : ℕ) (ends : List ℕ) → AreEnds s x n ends → NoWay s x y ends (length ends)
    → IsMissingAnswer s x y n false
no_way s x y n ends are none u w d p way =
    let at = are.all u w p way.edge in
    let F : ℕ → Type 0 = λ j. IsWay s x j y w d in
    none at.0 w d at.1 (subst F (sym at.2) way)
