-- Answers that are put into the places of their tasks: for `placed`, `unwrapped` and `together`.
use Rattle.std.proofs.Common.{◌≡◌, ℕ, zero, suc, ◌<◌, ◌≤◌, ◌⊎◌, inl, inr, ⊎_elim, List, [], ◌∷◌, ◌++◌, length, get_or, set, All, Option, Some, None, IsSome, refl, ap, sym, ◌∙◌, subst, map, append_assoc, replicate, arith, length-set, get_or-set_same}
use mathlib.Core.Logic.{dite}
use native.Mathlib.Decide.{ℕ_discrete}
use Rattle.std.specs.Prelude.{Contains, slice_index_or}
use Rattle.std.proofs.lemmas.List.{get_or_default, get_or-set_other, get_or-replicate, length-replicate, map-append, length-map}
use Rattle.std.proofs.lemmas.List.Elements.{All-pop}
use Rattle.task_pool.specs.declared.work.Done.{Done}
use Rattle.task_pool.specs.Lists.{times}
use Rattle.task_pool.specs.States.{tasks_of, IsRight}
use Rattle.task_pool.specs.Worked.{AnswersStandAtTheirTasks}
use Rattle.task_pool.proofs.Times.{times-snoc}
use Rattle.task_pool.proofs.Listing.{tasks_of-snoc, is_at-apart}

module _ {T : Type 0} where
  get_or_map_some : (xs : List T) (k : ℕ) (d : T) → k < length xs → get_or (map Some xs) k None ≡ Some (get_or xs k d)
  get_or_map_some [] k d low = absurd (omega arith)
  get_or_map_some (x ∷ xs) zero d low = refl
  get_or_map_some (x ∷ xs) (suc k) d low = get_or_map_some xs k d (omega arith)

  -- some answers are in their places, and the rest is still to be put
  pub record IsPlacing (tasks : ℕ) (all rest : List (Done T)) (places : List (Option T)) : Type 0 where
    pub len : length places ≡ tasks
    pub below : All (λ (d : Done T). d.task < tasks) rest
    pub mine : All (λ (d : Done T). Contains all d) rest
    pub from : (k : ℕ) (x : T) → k < tasks → slice_index_or places k None ≡ Some x
        → Contains all (record { task = k; out = x })
    pub covers : (x : ℕ) → x < tasks → (1 ≤ times x (tasks_of rest)) ⊎ IsSome (slice_index_or places x None)

  all_mine : (xs : List (Done T)) → All (λ (d : Done T). Contains xs d) xs
  all_mine xs k d low = (k, low, get_or_default xs k (get_or xs k d) d low)

  pub placing_starts : (tasks : ℕ) (all : List (Done T)) (places : List (Option T))
      → All (λ (d : Done T). d.task < tasks) all → ((x : ℕ) → x < tasks → 1 ≤ times x (tasks_of all))
      → places ≡ replicate tasks None → IsPlacing tasks all all places
  placing_starts tasks all places below covers empty = record {
    len = ap length empty ∙ length-replicate tasks None;
    below = below;
    mine = all_mine all;
    from = λ k x low e.
        let none_there : get_or places k None ≡ None =
        ap (λ (l : List (Option T)). get_or l k None) empty ∙ get_or-replicate tasks k None None low in
        let apart : None ≡ Some x = sym none_there ∙ e in
        cc;
    covers = λ x low. inl (covers x low);
  }

  pub placing_goes : (tasks : ℕ) (all rest less : List (Done T)) (places : List (Option T)) (d : Done T) → rest ≡ less
      ++ d ∷ [] → IsPlacing tasks all rest places → IsPlacing tasks all less (set places d.task (Some d.out))
  placing_goes tasks all rest less places d is p =
      let below = All-pop (λ (e : Done T). e.task < tasks) rest less (Some d) is p.below in
      let mine = All-pop (λ (e : Done T). Contains all e) rest less (Some d) is p.mine in
      let len = p.len in
      let low_d : d.task < tasks = below.1 in
      let here : get_or (set places d.task (Some d.out)) d.task None ≡ Some d.out =
      get_or-set_same places d.task (Some d.out) None (omega arith) in record {
        len = length-set places d.task (Some d.out) ∙ p.len;
        below = below.0;
        mine = mine.0;
        from = λ k x low e. dite (ℕ_discrete k d.task)
            (λ same.
            let out : Some d.out ≡ Some x =
            sym here ∙ (ap (λ (j : ℕ). get_or (set places d.task (Some d.out)) j None) (sym same) ∙ e) in
            let x_is : d.out ≡ x = cc in
            let P : ℕ × T → Type 0 = λ z. Contains all (record { task = z.0; out = z.1 }) in
            subst P (λ i. (sym same i, x_is i)) mine.1)
            (λ other. p.from k x low (sym (get_or-set_other places d.task k (Some d.out) None other) ∙ e));
        covers = λ x low. dite (ℕ_discrete x d.task)
            (λ same. inr (subst (λ (j : ℕ). IsSome (get_or (set places d.task (Some d.out)) j None)) (sym same)
            (subst IsSome (sym here) refl)))
            (λ other. ⊎_elim
            (λ there.
            let list : times x (tasks_of rest) ≡ times x (tasks_of less ++ d.task ∷ []) =
            ap (times x) (ap tasks_of is ∙ tasks_of-snoc less d) in
            let more = times-snoc x (tasks_of less) d.task in
            let none_there = is_at-apart x d.task other in
            inl (omega arith))
            (λ there. inr (subst IsSome (sym (get_or-set_other places d.task x (Some d.out) None other)) there))
            (p.covers x low));
      }

  pub placing_ends : (tasks : ℕ) (all rest : List (Done T)) (places : List (Option T)) → rest ≡ []
      → IsPlacing tasks all rest places → AnswersStandAtTheirTasks tasks all places
  placing_ends tasks all rest places none_left p = record {
    len = p.len;
    full = λ k d low. let len = p.len in ⊎_elim
        (λ there. let none_there : times k (tasks_of rest) ≡ 0 = ap (λ (l : List (Done T)). times k (tasks_of l))
        none_left in absurd (omega arith))
        (λ there. subst IsSome (get_or_default places k None d low) there)
        (p.covers k (omega arith));
    from = p.from;
  }

  pub unwraps : (start more : List T) (rest less all : List (Option T)) (x : T) (place : Option T) → map Some start
      ++ rest ≡ all → rest ≡ place ∷ less → place ≡ Some x → more ≡ start ++ x ∷ [] → map Some more ++ less ≡ all
  unwraps start more rest less all x place h is is_some longer =
      ap (λ (l : List T). map Some l ++ less) longer
      ∙ (ap (λ (l : List (Option T)). l ++ less) (map-append Some start (x ∷ []))
      ∙ (append_assoc (map Some start) (Some x ∷ []) less
      ∙ (ap (λ (p : Option T). map Some start ++ p ∷ less) (sym is_some)
      ∙ (ap (λ (l : List (Option T)). map Some start ++ l) (sym is) ∙ h))))

  pub rest_some : (rest less : List (Option T)) (place : Option T) → rest ≡ place ∷ less → All IsSome rest
      → All IsSome less
  rest_some rest less place is all k d low =
      let P : List (Option T) → Type 0 = λ l. All IsSome l in subst P is all (suc k) d (omega arith)

  -- the answer at each place is one that was given for its task
  pub answers_right : (gives : ℕ → T → Type 0) (tasks : ℕ) (done : List (Done T)) (places : List (Option T))
      (answers : List T) → All (IsRight gives tasks) done → AnswersStandAtTheirTasks tasks done places
      → map Some answers ≡ places
      → (k : ℕ) (d : T) → k < tasks → gives k (get_or answers k d)
  answers_right gives tasks done places answers right p is k d low =
      let len : length answers ≡ tasks = sym (length-map answers (λ (x : T). Some x)) ∙ (ap length is ∙ p.len) in
      let x : T = get_or answers k d in
      let at : get_or places k None ≡ Some x =
      sym (ap (λ (l : List (Option T)). get_or l k None) is) ∙ get_or_map_some answers k d (omega arith) in
      let there = p.from k x low at in
      let r : Done T = record { task = k; out = x } in
      let P : Done T → Type 0 = IsRight gives tasks in
      (subst P there.2 (right there.0 r there.1)).1
