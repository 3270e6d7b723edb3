-- What a settling only adds to a book: paths with a birth, and marks. Serves `form_edges`, `keep_joins` and the end.
use Rattle.std.specs.Prelude.{◌≡◌, ℕ, ◌⊎◌, ◌↔◌, List, Option, Some, None, refl}
use Rattle.std.proofs.Common.{sym, ◌∙◌, ap, inl, inr}
use Rattle.std.proofs.lemmas.Bool.{cases_eq}
use Rattle.apsp_model.specs.Graph.{Graph}
use Rattle.apsp_model.specs.Walk.{weight_of}
use Rattle.apsp_model.specs.Paths.{IsKeptIn, HasBirthIn}
use Rattle.apsp_model.specs.Settled.{HaveWeights}
use Rattle.path_arena.specs.Arena.{Arena, Path, path_at, path_of, list_of, IsLive}
use Rattle.path_arena.proofs.Paths.{live_path, live_from, path_of_at}
use Rattle.path_book.specs.Book.{Book, IsBook, with_kept, kept_paths}
use Rattle.path_book.proofs.Kept.{kept_live, birth_live, kept_at}
use Rattle.fixup.proofs.Views.{path_new, path_other, path_still}
use Rattle.fixup.specs.Growth.{IsGrown}

same_path : (p q : Path) → Some p ≡ Some q → p ≡ q
same_path p q e = cc

some_not_none : (o : Option Path) (p : Path) → o ≡ Some p → o ≡ None → ⊥
some_not_none o p e f = cc

-- an id is live, or it is not
pub here_or_not : (a : Arena) (id : ℕ) → ((p : Path) × (path_at a id ≡ Some p)) ⊎ (path_at a id ≡ None)
here_or_not a id = go (path_at a id) refl
  where
    go : (o : Option Path) → path_at a id ≡ o → ((p : Path) × (path_at a id ≡ Some p)) ⊎ (path_at a id ≡ None)
    go None e = inr e
    go (Some p) e = inl (p, e)

pub grown_none : (g : Graph) (birth : ℕ) (b : Book) → IsBook b → b.arena.vertices ≡ g.vertices
    → ((id : ℕ) (p : Path) → path_at b.arena id ≡ Some p → p.weight ≡ weight_of g p.list) → IsGrown g birth b b
grown_none g birth b lawful vertices weights =
    record { lawful = lawful; vertices = vertices; weights = weights; old = λ id p e. e; new = λ id p e. inl e }

pub grown_with : (g : Graph) (birth : ℕ) (b0 b : Book) → IsGrown g birth b0 b → (id : ℕ) (q : Path)
    → path_at b.arena id ≡ None → q.weight ≡ weight_of g q.list → q.birth ≡ birth → IsBook (with_kept b id q)
    → IsGrown g birth b0 (with_kept b id q)
grown_with g birth b0 b s id q fresh weight born lawful = record {
  lawful = lawful;
  vertices = s.vertices;
  weights = λ k p e. elim (cases_eq k id) [
    | inl same ↦ let is : p ≡ q =
        same_path p q (sym e ∙ ap (path_at (with_kept b id q).arena) same ∙ path_new b id q fresh) in
        ap (λ r. r.weight) is ∙ weight ∙ ap (λ r. weight_of g r.list) (sym is)
    | inr apart ↦ s.weights k p (sym (path_other b id q fresh k apart) ∙ e)
  ];
  old = λ k p e. let was : path_at b.arena k ≡ Some p =
      s.old k p e in path_still b id q fresh k (live_from b.arena k p was) ∙ was;
  new = λ k p e. elim (cases_eq k id) [
    | inl same ↦
        let is : p ≡ q = same_path p q (sym e ∙ ap (path_at (with_kept b id q).arena) same ∙ path_new b id q fresh) in
        inr (
          elim (here_or_not b0.arena k) [
            | inl was ↦ absurd (some_not_none (path_at b.arena k) was.0 (s.old k was.0 was.1)
                (ap (path_at b.arena) same ∙ fresh))
            | inr none ↦ none
          ],
          ap (λ r. r.birth) is ∙ born,
        )
    | inr apart ↦ s.new k p (sym (path_other b id q fresh k apart) ∙ e)
  ];
}

-- by ids
pub id_weight : (g : Graph) (birth : ℕ) (b0 b : Book) → IsGrown g birth b0 b → (id : ℕ) → IsLive b.arena id
    → (path_of b.arena id).weight ≡ weight_of g (list_of b.arena id)
id_weight g birth b0 b s id live =
    let p = live_path b.arena id live in
    let of : path_of b.arena id ≡ p.0 = path_of_at b.arena id p.0 p.1 in
    ap (λ q. q.weight) of ∙ s.weights id p.0 p.1 ∙ ap (λ q. weight_of g q.list) (sym of)

pub grown_weights : (g : Graph) (birth : ℕ) (b0 b : Book) → IsGrown g birth b0 b → HaveWeights g (kept_paths b)
grown_weights g birth b0 b s k c =
    let e = kept_at b k c in
    ap (λ j. j.weight) (sym e.is) ∙ id_weight g birth b0 b s e.id e.live ∙ ap (weight_of g) e.list

-- the births of a settling
pub grown_births : (g : Graph) (birth : ℕ) (b0 b : Book) → IsGrown g birth b0 b → (p : List ℕ) (n : ℕ)
    → HasBirthIn (kept_paths b) p n ↔ (HasBirthIn (kept_paths b0) p n
    ⊎ (IsKeptIn (kept_paths b) p × (IsKeptIn (kept_paths b0) p → ⊥) × (n ≡ birth)))
grown_births g birth b0 b s p n = (on, back)
  where
    on : HasBirthIn (kept_paths b) p n → HasBirthIn (kept_paths b0) p n
        ⊎ (IsKeptIn (kept_paths b) p × (IsKeptIn (kept_paths b0) p → ⊥) × (n ≡ birth))
    on h =
        let e = (birth_live b p n).0 h in
        let q = live_path b.arena e.0 e.1 in
        let of : path_of b.arena e.0 ≡ q.0 = path_of_at b.arena e.0 q.0 q.1 in
        elim (s.new e.0 q.0 q.1) [
          | inl old ↦
              let of0 : path_of b0.arena e.0 ≡ q.0 = path_of_at b0.arena e.0 q.0 old in
              inl ((birth_live b0 p n).1 (
                e.0,
                live_from b0.arena e.0 q.0 old,
                ap (λ r. r.list) (of0 ∙ sym of)
                    ∙ e.2,
                ap (λ r. r.birth) (of0 ∙ sym of) ∙ e.3,
              ))
          | inr new ↦ inr (
            (kept_live b p).1 (e.0, e.1, e.2),
            (λ was.
                let d = (kept_live b0 p).0 was in
                let r = live_path b0.arena d.0 d.1 in
                let now : path_at b.arena d.0 ≡ Some r.0 = s.old d.0 r.0 r.1 in
                let list : list_of b.arena d.0 ≡ p =
                ap (λ t. t.list) (path_of_at b.arena d.0 r.0 now ∙ sym (path_of_at b0.arena d.0 r.0 r.1)) ∙ d.2 in
                let same : d.0 ≡ e.0 = s.lawful.once d.0 e.0 (live_from b.arena d.0 r.0 now) e.1 (list ∙ sym e.2) in
                some_not_none (path_at b0.arena e.0) r.0 (ap (path_at b0.arena) (sym same) ∙ r.1) new.0),
            sym e.3 ∙ ap (λ r. r.birth) of ∙ new.1,
          )
        ]

    back : HasBirthIn (kept_paths b0) p n ⊎ (IsKeptIn (kept_paths b) p × (IsKeptIn (kept_paths b0) p → ⊥) × (n ≡ birth))
        → HasBirthIn (kept_paths b) p n
    back h = elim h [
      | inl old ↦
          let e = (birth_live b0 p n).0 old in
          let q = live_path b0.arena e.0 e.1 in
          let now : path_at b.arena e.0 ≡ Some q.0 = s.old e.0 q.0 q.1 in
          let same : path_of b.arena e.0 ≡ path_of b0.arena e.0 =
          path_of_at b.arena e.0 q.0 now ∙ sym (path_of_at b0.arena e.0 q.0 q.1) in
          (birth_live b p n).1 (
            e.0,
            live_from b.arena e.0 q.0 now,
            ap (λ r. r.list) same ∙ e.2,
            ap (λ r. r.birth) same
                ∙ e.3,
          )
      | inr new ↦
          let e = (kept_live b p).0 new.0 in
          let q = live_path b.arena e.0 e.1 in
          let of : path_of b.arena e.0 ≡ q.0 = path_of_at b.arena e.0 q.0 q.1 in
          elim (s.new e.0 q.0 q.1) [
            | inl old ↦ absurd (new.1 ((kept_live b0 p).1 (
              e.0,
              live_from b0.arena e.0 q.0 old,
              ap (λ r. r.list) (path_of_at b0.arena e.0 q.0 old ∙ sym of)
                  ∙ e.2,
            )))
            | inr born ↦ (birth_live b p n).1 (e.0, e.1, e.2, ap (λ r. r.birth) of ∙ born.1 ∙ sym new.2)
          ]
    ]
