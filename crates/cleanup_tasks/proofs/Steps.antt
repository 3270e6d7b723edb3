-- For refresh: what a call makes of the book at one path.
use Rattle.std.specs.Prelude.{◌≡◌, ◌≢◌, ℕ, ◌↔◌, IsTrue, unwrap_or, refl}
use Rattle.std.specs.Ordering.{nat_cmp}
use Rattle.std.specs.declared.cmp.Ordering.TheVariants.{Less}
use Rattle.std.specs.FinSet as set
use Rattle.std.proofs.Common.{sym, ◌∙◌, ap, subst, inl, inr}
use Rattle.std.proofs.lemmas.Bool.{cases_eq, false≢true}
use Rattle.apsp_model.specs.Order.{path_cmp}
use Rattle.apsp_model.specs.Walk.{first, last}
use Rattle.path_arena.specs.Arena.{Arena, no_path, IsLive, path_of, HasAnEdge, id_cmp}
use Rattle.path_arena.proofs.Keys.{get_put, get_put_other, get_gone_other}
use Rattle.path_arena.proofs.Births.{field_still, live_still, list_still, weight_still}
use Rattle.pair_heaps.specs.Heaps.{HasEnds}
use Rattle.extension_lists.specs.Known.{Known}
use Rattle.path_book.specs.Book.{Book, IsBook, IsMarked, without_mark, with_new_birth, IsForgotten, IsLeastKeptId}
use Rattle.path_book.proofs.Sets.{marked_gone, marked_gone_other}
use Rattle.path_book.proofs.Unmarked.{least_born, least_left}
use Rattle.path_book.proofs.Changes.{live_is_left}
use Rattle.cleanup_tasks.specs.Refreshing.{IsHigherId, StaysMarked, HasStayingParts}
use Rattle.cleanup_tasks.proofs.Refreshing.{one_least, same_ends}
use Rattle.cleanup_tasks.proofs.InPlace.{IsStepAt}

-- ---- it stays kept, with these marks

pub born_step : (v birth id : ℕ) (old now : Book) (marked : set.FinSet nat_cmp) (lists : Known) → IsBook now
    → HasAnEdge now.arena id → HasStayingParts v old id
    → ((q : ℕ) → IsTrue (set.contains marked q) ↔ (IsMarked now q × (q ≡ id → StaysMarked v old id))) → (new : Book)
    → new ≡ with_new_birth (record { arena = now.arena; marked = marked; lists = lists }) id birth → IsBook new
    → IsStepAt v birth id old now new
born_step v birth id old now marked lists was edge staying marks new is lawful =
    subst (λ (c : Book). IsBook c → IsStepAt v birth id old now c) (sym is) at lawful
  where
    at : IsBook (with_new_birth (record { arena = now.arena; marked = marked; lists = lists }) id birth)
        → IsStepAt v birth id old now (with_new_birth (record { arena = now.arena; marked = marked; lists = lists }) id
        birth)
    at book = record {
      book = book;
      vertices = refl;
      live = λ q. let same =
          live_still now.arena id birth was.arena edge q in (λ h. (sym same ∙ h, λ _. staying), λ h. same ∙ h.0);
      marked = marks;
      lists = λ q live. list_still now.arena id birth was.arena edge q;
      weights = λ q live. weight_still now.arena id birth was.arena edge q;
      lefts = λ q live. field_still now.arena id birth was.arena edge (λ p. p.left) refl q;
      rights = λ q live. field_still now.arena id birth was.arena edge (λ p. p.right) refl q;
      births = λ q live apart. ap (λ o. (unwrap_or o no_path).birth)
          (get_put_other now.arena.paths id (record (path_of now.arena id) { birth = birth }) q apart);
      birth_here =
          λ live. ap (λ o. (unwrap_or o no_path).birth)
          (get_put now.arena.paths id (record (path_of now.arena id) { birth = birth }));
      leasts = λ x y q. (
        λ l. (least_born now id birth was edge x y q).0 (record { live = l.live; ends = l.ends; least = l.least }),
        λ l. let n : IsLeastKeptId (with_new_birth now id birth) x y q =
            (least_born now id birth was edge x y q).1 l in record { live = n.live; ends = n.ends; least = n.least },
      );
    }

-- the same where the marks were changed by another call
pub demoted_step : (v birth id : ℕ) (old now mid : Book) → mid.arena ≡ now.arena → IsBook now → HasAnEdge now.arena id
    → HasStayingParts v old id → (StaysMarked v old id → ⊥) → ((q : ℕ) → IsMarked mid q ↔ (IsMarked now q × (q ≢ id)))
    → (new : Book) → new ≡ with_new_birth mid id birth → IsBook new → IsStepAt v birth id old now new
demoted_step v birth id old now mid arena was edge staying goes marks new is lawful =
    born_step v birth id old now mid.marked mid.lists was edge staying
    (λ q. (
      λ h. let m = (marks q).0 h in (m.0, λ same. absurd (m.1 same)),
      λ h. (marks q).1 (h.0, λ same. goes (h.1 same)),
    ))
    new (is ∙ ap (λ (a : Arena). with_new_birth (record { arena = a; marked = mid.marked; lists = mid.lists }) id birth)
    arena) lawful

-- a mark is taken, where there was one
pub mark_taken : (b new : Book) (id : ℕ) (lists : Known) → new ≡ without_mark b id lists → (q : ℕ)
    → IsMarked new q ↔ (IsMarked b q × (q ≢ id))
mark_taken b new id lists is q = elim (cases_eq q id) [
  | inl same ↦ (
    λ h. absurd (false≢true (sym (ap (set.contains (set.remove b.marked id)) same ∙ marked_gone b.marked id)
        ∙ sym (ap (λ (c : Book). set.contains c.marked q) is) ∙ h)),
    λ h. absurd (h.1 same),
  )
  | inr apart ↦ (
    λ h. (sym (marked_gone_other b.marked id q apart) ∙ sym (ap (λ (c : Book). set.contains c.marked q) is) ∙ h, apart),
    λ h. ap (λ (c : Book). set.contains c.marked q) is ∙ marked_gone_other b.marked id q apart ∙ h.0,
  )
]

-- ---- it is forgotten

module _ (v birth id : ℕ) (old now new : Book) (f : IsForgotten now new id) (lawful : IsBook new)
    (higher : IsHigherId now id) (above : (x y : ℕ) → IsLeastKeptId now x y id → ⊥) (goes : StaysMarked v old id → ⊥)
    (broken : HasStayingParts v old id → ⊥) where
  left_live : (q : ℕ) → IsLive new.arena q ↔ (IsLive now.arena q × (q ≢ id))
  left_live q = live_is_left now new id f q

  path_same : (q : ℕ) → IsLive new.arena q → path_of new.arena q ≡ path_of now.arena q
  path_same q live =
      ap (λ a. path_of a q) f.arena ∙ ap (λ o. unwrap_or o no_path)
      (get_gone_other now.arena.paths id q ((left_live q).0 live).1)

  marked_gone_from : (q : ℕ) → IsMarked new q ↔ (IsMarked now q × (q ≢ id))
  marked_gone_from q = elim (cases_eq q id) [
    | inl same ↦ (
      λ h. absurd (false≢true (sym (ap (set.contains (set.remove now.marked id)) same ∙ marked_gone now.marked id)
          ∙ sym (ap (λ m. set.contains m q) f.marked) ∙ h)),
      λ h. absurd (h.1 same),
    )
    | inr apart ↦ (
      λ h. (sym (marked_gone_other now.marked id q apart) ∙ sym (ap (λ m. set.contains m q) f.marked) ∙ h, apart),
      λ h. ap (λ m. set.contains m q) f.marked ∙ marked_gone_other now.marked id q apart ∙ h.0,
    )
  ]

  ends_same : (q x y : ℕ) → IsLive new.arena q → HasEnds new.arena q x y → HasEnds now.arena q x y
  ends_same q x y live h =
      (sym (ap (λ p. first p.list) (path_same q live)) ∙ h.0, sym (ap (λ p. last p.list) (path_same q live)) ∙ h.1)

  least_before : (x y q : ℕ) → IsLeastKeptId new x y q → IsLeastKeptId now x y q
  least_before x y q l = record {
    live = ((left_live q).0 l.live).0;
    ends = ends_same q x y l.live l.ends;
    least = λ r live ends below. elim (cases_eq r id) [
      | inl same ↦
          let there =
          same_ends now id higher.from higher.to x y higher.ends (subst (λ j. HasEnds now.arena j x y) same ends) in
          let other : IsLeastKeptId now x y higher.other =
          subst (λ u. IsLeastKeptId now u y higher.other) there.0
          (subst (λ w. IsLeastKeptId now higher.from w higher.other) there.1 higher.least) in
          let one : q ≡ higher.other =
          one_least new lawful x y q higher.other l (least_left now new id f above x y higher.other other) in
          other.least r live ends (subst (λ j. id_cmp now.arena r j ≡ Less) one below)
      | inr apart ↦
          let live_r : IsLive new.arena r = (left_live r).1 (live, apart) in
          l.least r live_r (
            ap (λ p. first p.list) (path_same r live_r)
                ∙ ends.0,
            ap (λ p. last p.list) (path_same r live_r) ∙ ends.1,
          )
          ((λ i. path_cmp (path_same r live_r i).weight (path_same r live_r i).list (path_same q l.live i).weight
          (path_same q l.live i).list) ∙ below)
    ];
  }

  pub gone_step : IsStepAt v birth id old now new
  gone_step = record {
    book = lawful;
    vertices = ap (λ a. a.vertices) f.arena;
    live = λ q. (
      λ h. let n = (left_live q).0 h in (n.0, λ same. absurd (n.1 same)),
      λ h. (left_live q).1 (h.0, λ same. broken (h.1 same)),
    );
    marked = λ q. (
      λ h. let n = (marked_gone_from q).0 h in (n.0, λ same. absurd (n.1 same)),
      λ h. (marked_gone_from q).1 (h.0, λ same. goes (h.1 same)),
    );
    lists = λ q live. ap (λ p. p.list) (path_same q live);
    weights = λ q live. ap (λ p. p.weight) (path_same q live);
    lefts = λ q live. ap (λ p. p.left) (path_same q live);
    rights = λ q live. ap (λ p. p.right) (path_same q live);
    births = λ q live apart. ap (λ p. p.birth) (path_same q live);
    birth_here = λ live. absurd (((left_live id).0 live).1 refl);
    leasts = λ x y q. (least_before x y q, least_left now new id f above x y q);
  }
