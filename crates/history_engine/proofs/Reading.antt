-- What an engine's readers give, of a new engine and of one whose kept paths are lawful: for `Engine::new`, `least` and
-- `counts`.
use Rattle.std.specs.Prelude.{◌≡◌, ℕ, ◌<◌, false, List, [], length, Option, Some, None, MatchOption, refl, Contains}
use Rattle.std.specs.declared.cmp.Ordering.TheVariants.{Less}
use Rattle.std.proofs.Common.{sym, ◌∙◌, ap, subst, arith, inl, inr}
use Rattle.apsp_model.specs.Graph.{Graph, no_edges}
use Rattle.apsp_model.specs.Walk.{IsWalkFrom, weight_of as walk_weight, first, last}
use Rattle.apsp_model.specs.Order.{IsBelow, path_cmp}
use Rattle.apsp_model.specs.Least.{IsLeast, HasNoWalk}
use Rattle.apsp_model.specs.Local.{IsVertex, IsLocal}
use Rattle.apsp_model.specs.Command.{Command}
use Rattle.apsp_model.specs.Counts.{CountIs, CountsAre, LatestTurnoverIs}
use Rattle.apsp_model.specs.Kept.{opening, moment_of, IsWithEdge, IsKept, HasBirth}
use Rattle.apsp_model.specs.Paths.{KeptPath, IsKeptIn, IsHistoricalIn, HasBirthIn, IsOncePerList, moment_in}
use Rattle.apsp_model.proofs.Below.{upto_or_above}
use Rattle.fixup_math.proofs.Births.{least_kept_is_least, none_kept_is_no_walk, opening_book}
use Rattle.apsp_model.proofs.Counting.{count_same}
use Rattle.fixup_math.specs.Settling.{IsLeastKept as IsFirst}
use Rattle.path_arena.specs.Arena.{vertex_of, IsLive, path_of, list_of, weight_of_id, id_cmp, single}
use Rattle.path_arena.proofs.Paths.{live_from, path_of_at}
use Rattle.path_book.specs.Book.{Book, IsBook, IsOpeningBook, IsLeastKeptId, KeepsNone, kept_path, kept_paths}
use Rattle.path_book.proofs.Kept.{kept_at, kept_live, historical_marked, birth_live, live_is_kept, kept_once}
use Rattle.history_engine.specs.declared.engine.Counts.{Counts}
use Rattle.history_engine.specs.Seen.{EngineSeen, paths_of, SayTheSame}
use Rattle.history_engine.specs.Lawful.{AreLawful}
use Rattle.history_engine.specs.Advance.{Stands}
use Rattle.history_engine.specs.Answers.{AreCounts, numbers}
use Rattle.history_engine.specs.Least.{LeastPath, IsLeastPath}
use Rattle.history_engine.proofs.Moments.{same_turned}
use Rattle.history_engine.proofs.Stepping.{to_book, from_book, book_on}

-- ---- a new book

module _ (b : Book) (n : ℕ) (lawful : IsBook b) (opened : IsOpeningBook b n) where
  inside : (u : ℕ) → u < n → u < b.arena.vertices
  inside u l = omega (arith, l, opened.vertices)

  at_vertex : (u : ℕ) → u < n → path_of b.arena (vertex_of b.arena u) ≡ single u
  at_vertex u l = path_of_at b.arena (vertex_of b.arena u) (single u) (lawful.arena.singles u (inside u l))

  live_vertex : (u : ℕ) → u < n → IsLive b.arena (vertex_of b.arena u)
  live_vertex u l = live_from b.arena (vertex_of b.arena u) (single u) (lawful.arena.singles u (inside u l))

  single_of : (id : ℕ) → IsLive b.arena id → (u : ℕ) × (u < n) × (path_of b.arena id ≡ single u)
  single_of id live = let u = opened.live id live in (u.0, u.1, ap (path_of b.arena) u.2 ∙ at_vertex u.0 u.1)

  to_vertex : (p : List ℕ) (id : ℕ) → IsLive b.arena id → list_of b.arena id ≡ p → IsVertex n p
  to_vertex p id live is = let u = single_of id live in (u.0, u.1, sym is ∙ ap (λ q. q.list) u.2)

  list_at : (p : List ℕ) (h : IsVertex n p) → list_of b.arena (vertex_of b.arena h.0) ≡ p
  list_at p h = ap (λ q. q.list) (at_vertex h.0 h.1) ∙ sym h.2

  -- it says what there is before any step
  pub opening_says : SayTheSame (moment_in 0 (kept_paths b)) (opening n)
  opening_says = record {
    steps = refl;
    historical = λ p. (
      λ h. (let at = (historical_marked b p).0 h in to_vertex p at.0 at.1 at.2),
      λ h. (historical_marked b p).1 (
        vertex_of b.arena h.0,
        live_vertex h.0 h.1,
        list_at p h,
        lawful.singles h.0
            (inside h.0 h.1),
      ),
    );
    kept = λ p. (
      λ h. (let at = (kept_live b p).0 h in to_vertex p at.0 at.1 at.2),
      λ h. (kept_live b p).1 (vertex_of b.arena h.0, live_vertex h.0 h.1, list_at p h),
    );
    birth = λ p k. (
      λ h. (let at = (birth_live b p k).0 h in
          (to_vertex p at.0 at.1 at.2, sym at.3 ∙ ap (λ q. q.birth) (single_of at.0 at.1).2)),
      λ h. (birth_live b p k).1 (
        vertex_of b.arena h.0.0,
        live_vertex h.0.0 h.0.1,
        list_at p h.0,
        ap (λ q. q.birth)
            (at_vertex h.0.0 h.0.1) ∙ sym h.1,
      ),
    );
  }

  pub opening_weights : (g : Graph) (k : KeptPath) → Contains (kept_paths b) k → k.weight ≡ walk_weight g k.list
  opening_weights g k c =
      let at = kept_at b k c in
      let u = single_of at.id at.live in
      ap (λ (q : KeptPath). q.weight) (sym at.is) ∙ ap (λ q. q.weight) u.2
      ∙ ap (walk_weight g) (sym (ap (λ q. q.list) u.2) ∙ at.list)

  pub opening_lawful : (g : Graph) → g ≡ no_edges n → AreLawful g 0 (kept_paths b)
  opening_lawful g is = subst (λ h. AreLawful h 0 (kept_paths b)) (sym is) (record {
    lawful = from_book (no_edges n) (moment_in 0 (kept_paths b))
        (book_on (no_edges n) (opening n) (moment_in 0 (kept_paths b))
        (same_turned (moment_in 0 (kept_paths b)) (opening n) opening_says) (opening_book n));
    weights = opening_weights (no_edges n);
    once = kept_once b lawful;
  })

  -- so a new engine stands for no commands
  pub new_stands : (e : EngineSeen) → e.opening ≡ n → e.graph ≡ no_edges n → e.vertices ≡ [] → e.steps ≡ 0
      → e.formed ≡ 0 → e.removed ≡ 0 → e.spent ≡ false → e.book ≡ b → Stands e []
  new_stands e count graph vertices steps formed removed spent book = record {
    outline =
        record {
          graph = graph ∙ ap no_edges (sym count);
          vertices = vertices;
          steps = steps;
          turnover
              = (formed, removed);
        };
    not_spent = spent;
    book = record {
      weights = λ k c. opening_weights e.graph k (subst (λ (ps : List KeptPath). Contains ps k) (ap kept_paths book) c);
      once = subst IsOncePerList (sym (ap kept_paths book)) (kept_once b lawful);
      says = subst (λ (ps : List KeptPath). SayTheSame (moment_in e.steps ps) (opening e.opening))
          (sym (ap kept_paths book))
          (subst (λ k. SayTheSame (moment_in k (kept_paths b)) (opening e.opening)) (sym steps)
          (subst (λ m. SayTheSame (moment_in 0 (kept_paths b)) (opening m)) (sym count) opening_says));
    };
  }

-- ---- the least path of a pair

module _ (b : Book) (g : Graph) (k : ℕ) (lawful : AreLawful g k (kept_paths b)) (x y : ℕ) where
  weight_is : (id : ℕ) → IsLive b.arena id → weight_of_id b.arena id ≡ walk_weight g (list_of b.arena id)
  weight_is id live = lawful.weights (kept_path b id (path_of b.arena id)) (live_is_kept b id live)

  walk_between : (id : ℕ) → IsLive b.arena id → first (list_of b.arena id) ≡ Some x → last (list_of b.arena id) ≡ Some y
      → IsWalkFrom g x y (list_of b.arena id)
  walk_between id live from to =
      let local : IsLocal g (IsHistoricalIn (kept_paths b)) (list_of b.arena id) =
      (lawful.lawful.kept (list_of b.arena id)).0 ((kept_live b (list_of b.arena id)).1 (id, live, refl)) in
      record { walk = local.walk; from = from; to = to }

  first_kept : (id : ℕ) → IsLeastKeptId b x y id → IsFirst g (IsKeptIn (kept_paths b)) x y (list_of b.arena id)
  first_kept id l = record {
    kept = (kept_live b (list_of b.arena id)).1 (id, l.live, refl);
    walk = walk_between id l.live l.ends.0 l.ends.1;
    first = λ p kept walk. (
        let at = (kept_live b p).0 kept in
        elim (upto_or_above g (list_of b.arena id) p) [
          | inl upto ↦ upto
          | inr above ↦ absurd (l.least at.0 at.1 (ap first at.2 ∙ walk.from, ap last at.2 ∙ walk.to)
              (under at.0 at.1 p at.2 above))
        ]
        );
  }
    where
      under : (q : ℕ) → IsLive b.arena q → (p : List ℕ) → list_of b.arena q ≡ p → IsBelow g p (list_of b.arena id)
          → id_cmp b.arena q id ≡ Less
      under q live p is above =
          let weights : id_cmp b.arena q id ≡ path_cmp (walk_weight g p) p (walk_weight g (list_of b.arena id))
          (list_of b.arena id) = (λ i. path_cmp (both i) (is i) (weight_is id l.live i) (list_of b.arena id)) in
          weights ∙ above
        where
          both : weight_of_id b.arena q ≡ walk_weight g p
          both = weight_is q live ∙ ap (walk_weight g) is

  pub least_walk : (id : ℕ) → IsLeastKeptId b x y id → IsLeast g x y (list_of b.arena id)
  least_walk id l =
      least_kept_is_least g (moment_in k (kept_paths b)) (to_book g (moment_in k (kept_paths b)) lawful.lawful) x y
      (list_of b.arena id) (first_kept id l)

  pub least_weight : (id : ℕ) → IsLeastKeptId b x y id → weight_of_id b.arena id ≡ walk_weight g (list_of b.arena id)
  least_weight id l = weight_is id l.live

  pub no_walk : KeepsNone b x y → HasNoWalk g x y
  no_walk none =
      none_kept_is_no_walk g (moment_in k (kept_paths b)) (to_book g (moment_in k (kept_paths b)) lawful.lawful) x y
      (λ q kept walk. (
      let at = (kept_live b q).0 kept in
      none at.0 at.1 (ap first at.2 ∙ walk.from, ap last at.2 ∙ walk.to)
      ))

-- ---- counts

pub counts_seen : (b : Book) (e : EngineSeen) (c : Counts) → e.book ≡ b → c.updates ≡ length e.vertices
    → c.steps ≡ e.steps → c.formed ≡ e.formed → c.removed ≡ e.removed
    → CountIs (λ p. IsKeptIn (kept_paths b) p × IsWithEdge p) c.paths
    → CountIs (λ p. IsHistoricalIn (kept_paths b) p × IsWithEdge p) c.historical → AreCounts e c
counts_seen b e c is updates steps formed removed paths historical = record {
  updates = updates;
  steps = steps;
  paths = let F : List KeptPath → Type 0 =
      λ ps. CountIs (λ p. IsKeptIn ps p × IsWithEdge p) c.paths in subst F (sym (ap kept_paths is)) paths;
  historical =
      let F : List KeptPath → Type 0 = λ ps. CountIs (λ p. IsKeptIn ps p × IsWithEdge p × IsHistoricalIn ps p)
      c.historical in subst F (sym (ap kept_paths is))
      (count_same (λ p. IsHistoricalIn (kept_paths b) p × IsWithEdge p)
      (λ p. IsKeptIn (kept_paths b) p × IsWithEdge p × IsHistoricalIn (kept_paths b) p) c.historical
      (λ p. (λ h. ((h.0.0, h.0.1, h.0.2), h.1, h.0), λ h. (h.2, h.1))) historical);
  formed = formed;
  removed = removed;
}

-- of any list of commands that the engine stands for
pub counts_of : (e : EngineSeen) (c : Counts) → AreCounts e c → (commands : List Command) → Stands e commands
    → CountsAre e.opening e.smooth commands (numbers c)
counts_of e c counts commands s =
    let m = moment_of e.opening e.smooth commands in
    record {
      updates = counts.updates ∙ ap length s.outline.vertices;
      steps = counts.steps ∙ s.outline.steps;
      paths = count_same (λ p. IsKeptIn (paths_of e) p × IsWithEdge p) (λ p. m.kept p × IsWithEdge p) c.paths
          (λ p. (λ h. ((s.book.says.kept p).0 h.0, h.1), λ h. ((s.book.says.kept p).1 h.0, h.1))) counts.paths;
      historical =
          count_same (λ p. IsKeptIn (paths_of e) p × IsWithEdge p × IsHistoricalIn (paths_of e) p)
          (λ p. m.kept p × IsWithEdge p × m.historical p) c.historical
          (λ p. (
            λ h. ((s.book.says.kept p).0 h.0, h.1, (s.book.says.historical p).0 h.2),
            λ h.
                ((s.book.says.kept p).1 h.0, h.1, (s.book.says.historical p).1 h.2),
          )) counts.historical;
      turnover =
          subst (λ f. LatestTurnoverIs e.opening e.smooth commands f c.removed) (sym counts.formed)
          (subst (LatestTurnoverIs e.opening e.smooth commands e.formed) (sym counts.removed) s.outline.turnover);
    }

-- ---- births

pub birth_for : (e : EngineSeen) (list : List ℕ) (o : Option ℕ)
    → MatchOption o (IsKeptIn (paths_of e) list → ⊥) (HasBirthIn (paths_of e) list) → (commands : List Command)
    → Stands e commands → MatchOption o (IsKept e.opening e.smooth commands list → ⊥)
    (HasBirth e.opening e.smooth commands list)
birth_for e list None none commands s = λ kept. none ((s.book.says.kept list).1 kept)
birth_for e list (Some b) birth commands s = (s.book.says.birth list b).0 birth

-- ---- what `least` answers

pub path_is : (e : EngineSeen) (b : Book) (g : Graph) (k : ℕ) → g ≡ e.graph → b ≡ e.book → AreLawful g k (kept_paths b)
    → (x y id : ℕ) → IsLeastKeptId b x y id → IsBook b → (l : LeastPath) → l.book ≡ b → l.id ≡ id → IsLeastPath e x y l
path_is e b g k graph paths lawful x y id least book l book_is id_is =
    subst (IsLeastPath e x y) (λ i. record { book = sym book_is i; id = sym id_is i }) (record {
      book = paths;
      lawful = book;
      first = least;
      walk = subst (λ h. IsLeast h x y (list_of b.arena id)) graph (least_walk b g k lawful x y id least);
      weight = least_weight b g k lawful x y id least ∙ ap (λ h. walk_weight h (list_of b.arena id)) graph;
    })
