-- Of each list of commands the moment behind it is a book of its graph.
--
-- The mathematics. A star step leaves a book where one was before it in a graph that differs at the step's vertex
-- alone,
-- and a cleaning step differs nowhere. A grow step leaves a book of the wider graph, and a mend step whatever was
-- before.
use Rattle.std.specs.Prelude.{◌≡◌, ℕ, false, Bool, if◌then◌else◌, List, [], ◌∷◌, refl}
use Rattle.std.specs.FinMap as map
use Rattle.std.proofs.Common.{sym, ◌∙◌, ap}
use Rattle.apsp_model.specs.Graph.{Graph, weight_at}
use Rattle.apsp_model.specs.Star.{Star, star_of, touches}
use Rattle.apsp_model.specs.Command.{Command, Star_update, Grow_update, Mend, Step, Star_step, graph_of, vertices_of, steps_of, cleaned, with_cleaning}
use Rattle.apsp_model.specs.Kept.{opening, after_steps, moment_of}
use Rattle.apsp_model.specs.Grows.{GrowsFit}
use Rattle.apsp_model.proofs.Stars.{weight-star_of}
use Rattle.fixup_math.proofs.Births.{StateBefore, book_after, opening_book}
use Rattle.fixup_math.proofs.Growing.{book_grown}
use Rattle.fixup_math.proofs.Mending.{book_mended}

-- a star changes nothing away from its vertex
pub same_star : (g : Graph) (s : Star) (a b : ℕ) → touches s.vertex (a, b) ≡ false
    → weight_at g a b ≡ weight_at (star_of g s) a b
same_star g s a b apart =
    sym (weight-star_of g s a b ∙ ap (λ c. if c then map.get s.edges (a, b) else weight_at g a b) apart)

cleaned_book : (g : Graph) (vs : List ℕ) (n : ℕ) (steps : List Step) → StateBefore g (after_steps (opening n) steps)
    → StateBefore g (after_steps (opening n) (with_cleaning vs g steps))
cleaned_book g [] n steps book = book
cleaned_book g (v ∷ vs) n steps book =
    cleaned_book g vs n (Star_step v g ∷ steps)
    (book_after (after_steps (opening n) steps) v g g refl (λ _ _ _. refl) book)

pub book_of : (n : ℕ) (smooth : Bool) (commands : List Command) → GrowsFit n commands
    → StateBefore (graph_of n commands) (moment_of n smooth commands)
book_of n smooth [] fit = opening_book n
book_of n smooth (Star_update s ∷ earlier) fit =
    let g : Graph = graph_of n (Star_update s ∷ earlier) in
    cleaned_book g (if smooth then cleaned (vertices_of (Star_update s ∷ earlier)) else []) n
    (Star_step s.vertex g ∷ steps_of n smooth earlier)
    (book_after (moment_of n smooth earlier) s.vertex (graph_of n earlier) g refl (same_star (graph_of n earlier) s)
    (book_of n smooth earlier fit))
book_of n smooth (Grow_update m ∷ earlier) fit =
    book_grown (graph_of n earlier) m fit.0 (moment_of n smooth earlier) (book_of n smooth earlier fit.1)
book_of n smooth (Mend ∷ earlier) fit = book_mended (moment_of n smooth earlier).steps (graph_of n earlier)
