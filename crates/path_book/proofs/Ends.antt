-- The parts of a path with an edge.
use Rattle.std.specs.Prelude.{◌≡◌, ℕ, ◌+◌, ◌<◌, [], ◌∷◌, length, Option, Some, None, is_some, unwrap_or, refl, Contains, List}
use Rattle.std.proofs.Common.{sym, ◌∙◌, ap, subst, arith, inl, inr}
use Rattle.std.proofs.lemmas.List.{length-append}
use Rattle.std.proofs.lemmas.List.Elements.{Contains-append_cases}
use Rattle.apsp_model.specs.Walk.{hops_of, last}
use Rattle.apsp_model.specs.Part.{left_part, right_part}
use Rattle.apsp_model.proofs.Members.{in_cons, in_nil}
use Rattle.apsp_model.proofs.Lists.{last-push, left_and_last, length_right}
use Rattle.path_arena.specs.Arena.{Arena, Path, no_path, path_at, vertex_of, IsLive, list_of, left_of, right_of, HasAnEdge, single, IsArena}
use Rattle.path_arena.proofs.Paths.{Parted, parted, path_of_at}
use Rattle.path_book.proofs.Readers.{single_or_edge, long_of_edge}

pub record Ends (a : Arena) (id : ℕ) : Type 0 where
  pub left : ℕ
  pub right : ℕ
  pub left_is : left_of a id ≡ Some left
  pub right_is : right_of a id ≡ Some right
  pub left_live : IsLive a left
  pub right_live : IsLive a right
  pub left_list : list_of a left ≡ left_part (list_of a id)
  pub right_list : list_of a right ≡ right_part (list_of a id)
  pub long : 1 < length (list_of a id)

pub ends : (a : Arena) (id : ℕ) → IsArena a → HasAnEdge a id → Ends a id
ends a id was edge =
    let p : Parted a id = parted a id was edge in
    record {
      left = p.parts.left;
      right = p.parts.right;
      left_is = ap (λ q. q.left) p.of ∙ p.parts.left_is;
      right_is = ap (λ q. q.right) p.of ∙ p.parts.right_is;
      left_live = p.parts.left_live;
      right_live = p.parts.right_live;
      left_list = p.parts.left_list ∙ ap (λ q. left_part q.list) (sym p.of);
      right_list = p.parts.right_list ∙ ap (λ q. right_part q.list) (sym p.of);
      long = long_of_edge a id was edge;
    }

pub hops_left : (a : Arena) (id : ℕ) (e : Ends a id) → hops_of (list_of a id) ≡ hops_of (list_of a e.left) + 1
hops_left a id e =
    let long : 1 < length (list_of a id) = e.long in
    let w = left_and_last (list_of a id) (omega arith) in
    omega (arith, ap length w.1, length-append (left_part (list_of a id)) (w.0 ∷ []), ap length e.left_list)

pub hops_right : (a : Arena) (id : ℕ) (e : Ends a id) → hops_of (list_of a id) ≡ hops_of (list_of a e.right) + 1
hops_right a id e =
    let long : 1 < length (list_of a id) = e.long in
    omega (arith, length_right (list_of a id) (omega arith), ap length e.right_list)

-- a path with a right part has an edge
pub edge_of_right : (a : Arena) → IsArena a → (q p : ℕ) → right_of a q ≡ Some p → HasAnEdge a q
edge_of_right a was q p right = go (path_at a q) refl
  where
    go : (o : Option Path) → path_at a q ≡ o → HasAnEdge a q
    go None e = absurd (let two : None ≡ Some p = sym (ap (λ o. (unwrap_or o no_path).right) e) ∙ right in cc)
    go (Some r) e = elim (single_or_edge a q was (ap is_some e)) [
      | inl one ↦
          let alone : right_of a q ≡ None =
          ap (right_of a) one.2 ∙ ap (λ s. s.right)
          (path_of_at a (vertex_of a one.0) (single one.0) (was.singles one.0 one.1)) in
          absurd (let two : None ≡ Some p = sym alone ∙ right in cc)
      | inr edge ↦ edge
    ]

-- what is not the last vertex stands in the left part
pub to_left : (p : List ℕ) (v : ℕ) → 0 < length p → (last p ≡ Some v → ⊥) → Contains p v → Contains (left_part p) v
to_left p v some apart c =
    let w = left_and_last p some in
    elim (Contains-append_cases (left_part p) (w.0 ∷ []) v (subst (λ xs. Contains xs v) w.1 c)) [
      | inl before ↦ before
      | inr at_end ↦ elim (in_cons v w.0 [] at_end) [
        | inl same ↦ absurd (apart (ap last w.1 ∙ last-push (left_part p) w.0 ∙ ap Some same))
        | inr none ↦ absurd (in_nil v none)
      ]
    ]
