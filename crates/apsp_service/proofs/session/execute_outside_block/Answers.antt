use Rattle.std.proofs.Common.{List, ℕ, refl, subst}
use Rattle.std.specs.Prelude.{Some, None, OnOk, string_bytes}
use Rattle.script_reader.specs.declared.Line.TheVariants as line
use Rattle.network_replies.specs.Age.{IsAgeReply}
use Rattle.network_replies.specs.Growing.{GrowsBy}
use Rattle.apsp_service.specs.Session.{HasReply}
use Rattle.apsp_service.proofs.Standing.{updated_outside, edge_outside, grown_outside, asked_outside, counted_inside, lawful_at, of_network, grows_by_none}
use Rattle.apsp_service.proofs.session.execute_outside_block.Goals as goal

pub returns-in-Star-clause-stands : goal.returns-in-Star-clause-stands
returns-in-Star-clause-stands g c =
    λ s is. rw c.in-Star.is (updated_outside _ _ _ s _ is
    (lawful_at c.args.network.now None c.requires.fits.0 s (line.Star c.in-Star.star) is
    (rw c.in-Star.is at c.requires.fits.1)) c.apply.ensures.made)

pub returns-in-Star-clause-reply : goal.returns-in-Star-clause-reply
returns-in-Star-clause-reply g c = λ s is.
    rw c.in-Star.is (grows_by_none c.apply.result (HasReply s.vertices s.terms.smooth s.commands (line.Star c.in-Star.star)) _
    refl)

pub returns-in-Edge-clause-stands : goal.returns-in-Edge-clause-stands
returns-in-Edge-clause-stands g c =
    λ s is. rw c.in-Edge.is (edge_outside _ _ _ s c.in-Edge.u c.in-Edge.v (Some c.in-Edge.w) is
    (lawful_at c.args.network.now None c.requires.fits.0 s (line.Edge c.in-Edge.u c.in-Edge.v c.in-Edge.w) is
    (rw c.in-Edge.is at c.requires.fits.1)) c.put_edge.ensures.made)

pub returns-in-Cut-clause-stands : goal.returns-in-Cut-clause-stands
returns-in-Cut-clause-stands g c =
    λ s is. rw c.in-Cut.is (edge_outside _ _ _ s c.in-Cut.u c.in-Cut.v None is
    (lawful_at c.args.network.now None c.requires.fits.0 s (line.Cut c.in-Cut.u c.in-Cut.v) is
    (rw c.in-Cut.is at c.requires.fits.1)) c.put_edge-in-Cut.ensures.made)

pub returns-in-Grow-clause-stands : goal.returns-in-Grow-clause-stands
returns-in-Grow-clause-stands g c =
    λ s is. rw c.in-Grow.is (grown_outside _ _ _ s c.in-Grow.n is
    (lawful_at c.args.network.now None c.requires.fits.0 s (line.Grow c.in-Grow.n) is
    (rw c.in-Grow.is at c.requires.fits.1)) c.grow.ensures.made)

pub returns-in-Age-clause-reply : goal.returns-in-Age-clause-reply
returns-in-Age-clause-reply g c = λ s is.
    let P : List ℕ → Type 0 =
    λ list. OnOk c.put_age.result (GrowsBy (IsAgeReply s.vertices s.terms.smooth s.commands list)
    (string_bytes c.args.text.now) (string_bytes c.put_age.new.text)) in
    rw c.in-Age.is (subst P c.items.ensures
    (of_network _ (λ n smooth. IsAgeReply n smooth s.commands c.items.result.now) _ s _ _ is.network
    (c.put_age.ensures s.commands is.network.stands)))
