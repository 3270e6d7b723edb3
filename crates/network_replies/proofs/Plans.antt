-- A plan with one star more, and the graph after it.
use Rattle.std.proofs.Common.{◌≡◌, ℕ, ◌+◌, List, [], ◌∷◌, ◌++◌, length, length-append, refl, sym, ap, subst, ◌∙◌, arith}
use Rattle.std.specs.Prelude.{Some, slice_get, ◌-◌}
use Rattle.apsp_model.specs.Graph.{Graph}
use Rattle.apsp_model.specs.Star.{Star, star_of}
use Rattle.graph_store.specs.Plan.{Plan, graph_after, with_star, hi_of}

pub after_vertices : (g : Graph) (stars : List Star) → (graph_after g stars).vertices ≡ g.vertices
after_vertices g [] = refl
after_vertices g (s ∷ stars) = after_vertices (star_of g s) stars

-- the graph after one star more, which is the last of the list
after_more : (g : Graph) (stars : List Star) (star : Star)
    → graph_after g (stars ++ star ∷ []) ≡ star_of (graph_after g stars) star
after_more g [] star = refl
after_more g (s ∷ stars) star = after_more (star_of g s) stars star

seam : (stars : List Star) (star : Star) → slice_get (stars ++ star ∷ []) (length stars) ≡ Some star
seam [] star = refl
seam (s ∷ stars) star = seam stars star

last_is : (stars : List Star) (star found : Star)
    → Some found ≡ slice_get (stars ++ star ∷ []) (length (stars ++ star ∷ []) - 1) → found ≡ star
last_is stars star found e =
    let place : length (stars ++ star ∷ []) - 1 ≡ length stars = omega (arith, length-append stars (star ∷ [])) in
    let at : Some found ≡ Some star = e ∙ ap (slice_get (stars ++ star ∷ [])) place ∙ seam stars star in
    cc

pub last_more : (g : Graph) (stars now : List Star) (star found : Star) (last new : Graph) → last ≡ graph_after g stars
    → now ≡ stars ++ star ∷ [] → Some found ≡ slice_get now (length now - 1) → new ≡ star_of last found
    → new ≡ graph_after g now
last_more g stars now star found last new was is e made =
    let F : List Star → Type 0 = λ ss. Some found ≡ slice_get ss (length ss - 1) in
    made ∙ (λ i. star_of (was i) (last_is stars star found (subst F is e) i)) ∙ sym (after_more g stars star)
    ∙ ap (graph_after g) (sym is)

-- the star that a plan has for its last number is the one that was put behind it
found_is : (p q : Plan) (star found : Star) (number : ℕ) → q ≡ with_star p star → number ≡ hi_of q
    → slice_get q.stars (number - q.lo - 1) ≡ Some found
    → Some found ≡ slice_get (p.stars ++ star ∷ []) (length (p.stars ++ star ∷ []) - 1)
found_is p q star found number is at e =
    let G : Plan → Type 0 = λ z. slice_get z.stars (number - z.lo - 1) ≡ Some found in
    let top : number ≡ p.lo + length (p.stars ++ star ∷ []) = at ∙ ap hi_of is in
    let place : number - p.lo - 1 ≡ length (p.stars ++ star ∷ []) - 1 = omega (arith, top) in
    sym (subst G is e) ∙ ap (slice_get (p.stars ++ star ∷ [])) place

pub found_vertices : (p q : Plan) (star found : Star) (number : ℕ) (last : Graph) → last ≡ graph_after p.start p.stars
    → q ≡ with_star p star → number ≡ hi_of q → slice_get q.stars (number - q.lo - 1) ≡ Some found
    → star.vertices ≡ (graph_after p.start p.stars).vertices → found.vertices ≡ last.vertices
found_vertices p q star found number last was is at e same =
    ap (λ (s : Star). s.vertices) (last_is p.stars star found (found_is p q star found number is at e)) ∙ same
    ∙ ap (λ (g : Graph). g.vertices) (sym was)

pub apply_last : (p q : Plan) (star found : Star) (number : ℕ) (last new : Graph) → last ≡ graph_after p.start p.stars
    → q ≡ with_star p star → number ≡ hi_of q → slice_get q.stars (number - q.lo - 1) ≡ Some found
    → new ≡ star_of last found → new ≡ graph_after q.start q.stars
apply_last p q star found number last new was is at e made =
    let F : Plan → Type 0 = λ z. new ≡ graph_after z.start z.stars in
    subst F (sym is) (last_more p.start p.stars (p.stars ++ star ∷ []) star found last new was refl
    (found_is p q star found number is at e) made)
