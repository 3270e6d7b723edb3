-- What an arena is after a record is put in, or where there was no memory for it.
use Rattle.std.specs.Prelude.{◌≡◌, ◌≢◌, ℕ, suc, ◌+◌, ◌*◌, ◌<◌, ◌≤◌, List, [], ◌∷◌, ◌++◌, length, Option, Some, None, Result, Ok, Err, IfOk, OnErr, refl}
use Rattle.std.proofs.Common.{sym, ◌∙◌, ap, subst, arith}
use Rattle.std.proofs.lemmas.List.{length-append}
use Rattle.apsp_model.specs.declared.TheConstants.{MOST_VERTICES, MOST_WEIGHT}
use Rattle.apsp_model.specs.Walk.{first, last, hops_of}
use Rattle.apsp_model.specs.Part.{left_part, right_part}
use Rattle.apsp_model.proofs.Lists.{last-push, first-append, left_and_last, length_right}
use Rattle.apsp_model.proofs.Joins.{right-joined}
use Rattle.apsp_model.proofs.Simples.{simple_is_short}
use Rattle.path_arena.specs.Arena.{Path, Arena, path_at, vertex_of, IsLive, path_of, list_of, weight_of_id, single, edge_path, joined_path, with_path, second, CanJoin, IsPath, IsArena}
use Rattle.path_arena.specs.Records.{slot_at, record_at, list_under, part_id, path_from, arena_in, IsRecordOf, AreRecordsOfLists, IsPut}
use Rattle.path_arena.specs.declared.arena.Record.{Record}
use Rattle.path_arena.proofs.Paths.{live_from, live_path, path_of_at, live_from_edge, Meeting, meeting, IsPath-edge, IsPath-joined}
use Rattle.path_arena.proofs.Stores.{record_of_slot, slot_of_live, no_path_of_slot, path_of_slot, record_describes, path_from_old, arena_put, kept_put}

pub record AfterPut {E : Type 0} (singles : List ℕ) (old new : List (Option Record)) (p : Path) (o : Result ℕ E) : Type
    0 where
  pub kept : AreRecordsOfLists singles new
  pub fresh : IfOk o (λ id. path_at (arena_in singles old) id ≡ None)
  pub added : IfOk o (λ id. arena_in singles new ≡ with_path (arena_in singles old) id p)
  pub memory : OnErr o (arena_in singles new ≡ arena_in singles old)

module _ (singles : List ℕ) (old new : List (Option Record)) (kept : AreRecordsOfLists singles old) where
  -- the new record's right part has a record, with one edge less, so its path begins with its first vertex and goes on
  -- with its right part
  pub path_from-put : (key : ℕ) (r s : Record) → IsPut old new key r → slot_at old r.right ≡ Some s
      → r.hops ≡ s.hops + 1 → path_from new key r ≡ record {
        list = r.first ∷ list_of (arena_in singles old) r.right;
        weight = r.weight;
        birth = r.birth;
        left = Some r.left;
        right = Some r.right;
      }
  path_from-put key r s put there long =
      let one_more : r.hops ≡ suc s.hops = omega arith in
      let here : record_at new key ≡ r = record_of_slot new key r put.here in
      let tail : list_under new s.hops r.right ≡ list_of (arena_in singles old) r.right =
      ap (λ p. p.list) (path_from_old singles old new key r kept put r.right s there)
      ∙ sym (ap (λ p. p.list) (path_of_at (arena_in singles old) r.right (path_from old r.right s)
      (path_of_slot singles old r.right s there))) in
      let lists : list_under new r.hops key ≡ r.first ∷ list_of (arena_in singles old) r.right =
      ap (λ h. list_under new h key) one_more ∙ ap (λ q. q.first ∷ list_under new s.hops q.right) here
      ∙ ap (λ l. r.first ∷ l) tail in
      let lefts : part_id r.hops r.left ≡ Some r.left = ap (λ h. part_id h r.left) one_more in
      let rights : part_id r.hops r.right ≡ Some r.right = ap (λ h. part_id h r.right) one_more in
      λ i. record { list = lists i; weight = r.weight; birth = r.birth; left = lefts i; right = rights i }

  pub after_put : {E : Type 0} (r : Record) (p : Path) (o : Result ℕ E) → IfOk o (λ key. IsPut old new key r)
      → OnErr o (new ≡ old) → second p.list ≡ Some r.second → last p.list ≡ Some r.last
      → ((id : ℕ) → IsPath (arena_in singles old) id p) → ((key : ℕ) → IsPut old new key r → path_from new key r ≡ p)
      → AfterPut singles old new p o
  after_put r p (Ok id) ok same begins ends path made = record {
    kept = kept_put singles old new id r kept ok p (made id ok) (path id) begins ends;
    fresh = no_path_of_slot singles old id ok.was;
    added = arena_put singles old new id r kept ok p (made id ok);
    memory = tt;
  }
  after_put r p (Err e) ok same begins ends path made = record {
    kept = subst (λ s. AreRecordsOfLists singles s) (sym same) kept;
    fresh = tt;
    added = tt;
    memory = ap (arena_in singles) same;
  }

-- what the record of an edge is put in as
pub record IsEdgeRecord (a : Arena) (u v w birth : ℕ) (r : Record) : Type 0 where
  pub weight : r.weight ≡ w
  pub birth_is : r.birth ≡ birth
  pub first : r.first ≡ u
  pub second : r.second ≡ v
  pub last : r.last ≡ v
  pub hops : r.hops ≡ 1
  pub left : r.left ≡ vertex_of a u
  pub right : r.right ≡ vertex_of a v

pub after_edge : {E : Type 0} (singles : List ℕ) (old new : List (Option Record)) → AreRecordsOfLists singles old
    → (u v w birth : ℕ) (r : Record) → u < length singles → v < length singles → u ≢ v → w ≤ MOST_WEIGHT
    → IsEdgeRecord (arena_in singles old) u v w birth r → (o : Result ℕ E) → IfOk o (λ key. IsPut old new key r)
    → OnErr o (new ≡ old) → AfterPut singles old new (edge_path (arena_in singles old) u v w birth) o
after_edge singles old new kept u v w birth r from to apart most is o ok same =
    after_put singles old new kept r (edge_path a u v w birth) o ok same (ap Some (sym is.second))
    (ap Some (sym is.last)) (λ id. IsPath-edge a id u v w birth kept.arena from to apart most) made
  where
    a : Arena
    a = arena_in singles old

    there : (s : Record) × (slot_at old (vertex_of a v) ≡ Some s)
    there = slot_of_live singles old (vertex_of a v) (live_from a (vertex_of a v) (single v) (kept.arena.singles v to))

    of_v : path_of a (vertex_of a v) ≡ single v
    of_v = path_of_at a (vertex_of a v) (single v) (kept.arena.singles v to)

    no_edge : there.0.hops + 1 ≡ 1
    no_edge =
        let d : IsRecordOf (path_of a (vertex_of a v)) there.0 =
        record_describes singles old kept (vertex_of a v) there.0 there.1 in
        sym d.hops ∙ ap (λ p. length p.list) of_v

    made : (key : ℕ) → IsPut old new key r → path_from new key r ≡ edge_path a u v w birth
    made key put =
        let F : ℕ → Type 0 = λ k. slot_at old k ≡ Some there.0 in
        let lists : r.first ∷ list_of a r.right ≡ u ∷ v ∷ [] =
        (λ i. is.first i ∷ list_of a (is.right i)) ∙ ap (λ p. u ∷ p.list) of_v in
        path_from-put singles old new kept key r there.0 put (subst F (sym is.right) there.1) (is.hops ∙ sym no_edge)
        ∙ (λ i. record {
          list = lists i;
          weight = is.weight i;
          birth = is.birth_is i;
          left = Some (is.left i);
          right
              = Some (is.right i);
        })

-- ---- joins

-- no path has more vertices than there are, so its weight fits
pub length_most : (a : Arena) (id : ℕ) → IsArena a → IsLive a id → length (list_of a id) ≤ MOST_VERTICES
length_most a id h live =
    let p = live_path a id live in
    let is : IsPath a id p.0 = h.paths id p.0 p.1 in
    let short : length p.0.list ≤ a.vertices = simple_is_short a.vertices p.0.list is.simple is.inside in
    let same : length (list_of a id) ≡ length p.0.list = ap (λ q. length q.list) (path_of_at a id p.0 p.1) in
    let most : a.vertices ≤ MOST_VERTICES = h.most in
    omega arith

pub weight_most : (a : Arena) (id : ℕ) → IsArena a → IsLive a id → weight_of_id a id ≤ MOST_VERTICES * MOST_WEIGHT
weight_most a id h live =
    let p = live_path a id live in
    let is : IsPath a id p.0 = h.paths id p.0 p.1 in
    let short : length p.0.list ≤ a.vertices = simple_is_short a.vertices p.0.list is.simple is.inside in
    let same : weight_of_id a id ≡ p.0.weight = ap (λ q. q.weight) (path_of_at a id p.0 p.1) in
    let most : a.vertices ≤ MOST_VERTICES = h.most in
    let k : p.0.weight ≤ hops_of p.0.list * MOST_WEIGHT = is.weight in
    omega arith

list_by_first : (p : List ℕ) (x : ℕ) → first p ≡ Some x → p ≡ x ∷ right_part p
list_by_first [] x e = cc
list_by_first (y ∷ p) x e = let same : y ≡ x = cc in ap (λ z. z ∷ p) same

second-append : (p q : List ℕ) → 1 < length p → second (p ++ q) ≡ second p
second-append [] q long = absurd (omega arith)
second-append (x ∷ []) q long = absurd (omega arith)
second-append (x ∷ y ∷ p) q long = refl

pub record IsJoinRecord (a : Arena) (l r weight birth : ℕ) (q : Record) : Type 0 where
  pub weight_is : q.weight ≡ weight
  pub birth_is : q.birth ≡ birth
  pub first : first (list_of a l) ≡ Some q.first
  pub second : second (list_of a l) ≡ Some q.second
  pub last : last (list_of a r) ≡ Some q.last
  pub hops : length (list_of a l) ≡ q.hops
  pub left : q.left ≡ l
  pub right : q.right ≡ r

pub after_join : {E : Type 0} (singles : List ℕ) (old new : List (Option Record)) → AreRecordsOfLists singles old
    → (l r birth : ℕ) (q : Record) → CanJoin (arena_in singles old) l r
    → IsJoinRecord (arena_in singles old) l r (joined_path (arena_in singles old) l r birth).weight birth q
    → (o : Result ℕ E) → IfOk o (λ key. IsPut old new key q) → OnErr o (new ≡ old)
    → AfterPut singles old new (joined_path (arena_in singles old) l r birth) o
after_join singles old new kept l r birth q can is o ok same =
    after_put singles old new kept q (joined_path a l r birth) o ok same begins ends
    (λ id. IsPath-joined a id l r birth kept.arena can) made
  where
    a : Arena
    a = arena_in singles old

    m : Meeting a l r
    m = meeting a l r kept.arena can

    live : IsLive a r
    live = live_from_edge a r kept.arena can.right_live

    there : (s : Record) × (slot_at old r ≡ Some s)
    there = slot_of_live singles old r live

    begins : second (joined_path a l r birth).list ≡ Some q.second
    begins = ap second (m.list birth) ∙ second-append (list_of a l) (m.to ∷ []) m.overlap.some ∙ is.second

    ends : last (joined_path a l r birth).list ≡ Some q.last
    ends = ap last (m.list birth) ∙ last-push (list_of a l) m.to ∙ sym m.ends ∙ is.last

    as_long : q.hops ≡ there.0.hops + 1
    as_long =
        let d : IsRecordOf (path_of a r) there.0 = record_describes singles old kept r there.0 there.1 in
        let some_l : 1 < length (list_of a l) = m.overlap.some in
        let some_r : 0 < length (list_of a r) = (let h = d.hops in omega arith) in
        let whole = left_and_last (list_of a r) some_r in
        let left : length (left_part (list_of a r)) + 1 ≡ length (list_of a r) =
        omega (arith, ap length whole.1, length-append (left_part (list_of a r)) (whole.0 ∷ [])) in
        let right : length (right_part (list_of a l)) + 1 ≡ length (list_of a l) =
        length_right (list_of a l) (omega arith) in
        omega (arith, ap length m.overlap.overlap, is.hops, d.hops)

    made : (key : ℕ) → IsPut old new key q → path_from new key q ≡ joined_path a l r birth
    made key put =
        let F : ℕ → Type 0 = λ k. slot_at old k ≡ Some there.0 in
        let joined : first (list_of a l ++ m.to ∷ []) ≡ Some q.first =
        first-append q.first (list_of a l) (m.to ∷ []) is.first in
        let lists : q.first ∷ list_of a q.right ≡ (joined_path a l r birth).list =
        (λ i. q.first ∷ list_of a (is.right i))
        ∙ ap (λ p. q.first ∷ p) (sym (right-joined (list_of a l) (list_of a r) m.to m.overlap))
        ∙ sym (list_by_first (list_of a l ++ m.to ∷ []) q.first joined) ∙ sym (m.list birth) in
        path_from-put singles old new kept key q there.0 put (subst F (sym is.right) there.1) as_long
        ∙ (λ i. record {
          list = lists i;
          weight = is.weight_is i;
          birth = is.birth_is i;
          left = Some (is.left i);
          right
              = Some (is.right i);
        })
