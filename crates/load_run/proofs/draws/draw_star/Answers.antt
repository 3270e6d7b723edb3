use Rattle.std.proofs.Common.{ℕ, ◌<◌, ◌%◌, ap, arith}
use Rattle.apsp_model.specs.Star.{Star}
use Rattle.load_run.proofs.Drawing.{both_whole, out_again, star_drawn, place_drawn}
use Rattle.load_run.proofs.draws.draw_star.Goals as goal

below : (k n : ℕ) → 0 < n → k % n < n
below k n some = omega (arith, some)

pub draw_in-requires : goal.draw_in-requires
draw_in-requires c =
    let h = c.draw_out.ensures in
    let made = c.in-Ok.ensures.ok in
    record {
      inside = omega (
        arith,
        below c.draw.result c.args.n c.requires.some,
        h.vertices,
        h.vertex,
        ap (λ (s : Star). s.vertices) made,
        ap (λ (s : Star). s.vertex) made,
      );
      some = (c.draw.new.self, out_again _ _ _ _ _ h);
    }

pub returns-clause-star : goal.returns-clause-star
returns-clause-star c =
    star_drawn _ _ _ _ (below _ _ c.requires.some)
    (both_whole c.args.n c.args.draws.now _ _ _ _ _ _ _ c.in-Ok.ensures.ok c.draw.ensures.drawn c.draw.ensures.place
    c.draw_out.ensures c.draw_in.ensures)

pub returns-clause-place : goal.returns-clause-place
returns-clause-place c =
    place_drawn _ _ _ _ (below _ _ c.requires.some)
    (both_whole c.args.n c.args.draws.now _ _ _ _ _ _ _ c.in-Ok.ensures.ok c.draw.ensures.drawn c.draw.ensures.place
    c.draw_out.ensures c.draw_in.ensures)
