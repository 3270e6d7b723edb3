use Rattle.std.proofs.Common.{rules, [], refl, sym, append-nil}
use Rattle.apsp_service.proofs.Standing.{inside_as, block_vertices, fits_in, fits_out, room_in, silent_inside, grows_by_none, begun_when}
use Rattle.apsp_service.proofs.session.Session.execute.Goals as goal

pub returns-in-Vertices-clause-reply : goal.returns-in-Vertices-clause-reply
returns-in-Vertices-clause-reply g c = λ s has. rw c.in-Vertices.is ([], refl, sym (append-nil _))

pub execute_in_block-requires : goal.execute_in_block-requires
execute_in_block-requires g c =
    let was = c.requires.stands in
    let same =
    block_vertices c.args.self.now.network c.args.self.now.block c.in-Some.network c.in-Some-block.block was.0
    (search rules) (search rules) was.1 in record {
      fits = (
        c.args.self.now.terms,
        fits_in c.args.self.now.network c.args.self.now.block c.args.self.now.terms
            c.in-Some.network c.in-Some-block.block c.args.line (search rules) (search rules) same c.requires.fits,
      );
      few = room_in c.args.self.now.network c.args.self.now.block c.in-Some.network c.in-Some-block.block was.0
          (search rules) (search rules) was.1 was.2;
      goes_on = c.requires.goes_on;
    }

pub returns-in-Some-block : goal.returns-in-Some-block
returns-in-Some-block g c =
    let was = c.requires.stands in
    let same =
    block_vertices c.args.self.now.network c.args.self.now.block c.in-Some.network c.in-Some-block.block was.0
    (search rules) (search rules) was.1 in
    let fits =
    fits_in c.args.self.now.network c.args.self.now.block c.args.self.now.terms c.in-Some.network
    c.in-Some-block.block c.args.line (search rules) (search rules) same c.requires.fits in record {
      stands = λ s h terms.
          c.execute_in_block.ensures c.in-Some.network s
          (inside_as c.args.self.now.network c.args.self.now.block c.in-Some.network c.in-Some-block.block s
          (search rules) (search rules) h);
      reply = λ s h. grows_by_none _ _ _ (silent_inside _ s.vertices s.terms.smooth s.commands c.args.self.now.terms
          c.in-Some-block.block c.args.line fits);
      cutter = refl;
      terms = refl;
      lines = refl;
      refused = refl;
    }

pub returns-in_ok-new-2 : goal.returns-in_ok-new-2
returns-in_ok-new-2 g c = record {
  stands = λ s h terms.
      begun_when c.args.self.now.network c.args.self.now.block c.in-Some.network c.in_ok-new-2.field-0 s c.args.line
      c.args.self.now.terms _ _ (search rules) (search rules) (search rules) terms c.in_ok-new-2.ensures
      c.graph.ensures c.number.ensures c.requires.fits h;
  reply = λ s h. rw c.in-Block.is ([], refl, sym (append-nil _));
  cutter = refl;
  terms = refl;
  lines = refl;
  refused = refl;
}

pub execute_outside_block-requires-clause-fits : goal.execute_outside_block-requires-clause-fits
execute_outside_block-requires-clause-fits g c κs within = (
  c.args.self.now.terms,
  fits_out c.args.self.now.network c.args.self.now.block c.args.self.now.terms c.in-Some.network c.args.line
      (search rules) (search rules) c.requires.fits,
)
