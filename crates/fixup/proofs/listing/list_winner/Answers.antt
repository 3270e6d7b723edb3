use Rattle.std.proofs.Common.{◌≡◌, Some, sym, ◌∙◌, ap, subst}
use Rattle.std.proofs.lemmas.Result.{on_ok_weaker}
use Rattle.path_arena.specs.Arena.{Arena, IsLive, left_of, right_of}
use Rattle.path_arena.proofs.Paths.{live_from_edge}
use Rattle.extension_lists.specs.Known.{Known, sides_at}
use Rattle.fixup.specs.declared.listing.PartnerSide.TheVariants.{Left, Right}
use Rattle.fixup.specs.Listing.{AreAdded, ListsFrom}
use Rattle.fixup.proofs.Adding.{fronts_are, behinds_are, winner_listed, winner_whole}
use Rattle.fixup.proofs.listing.list_winner.Goals as goal

pub list_side-requires-clause-live : goal.list_side-requires-clause-live
list_side-requires-clause-live c =
    λ w m. subst (λ (a : Arena). IsLive a w) (sym c.arena-arena.ensures.lent)
    (live_from_edge c.args.book.now.arena w c.requires.class.lawful.arena (c.requires.class.edge w m))

pub list_side-requires-2-clause-live : goal.list_side-requires-2-clause-live
list_side-requires-2-clause-live c =
    λ w m. subst (λ (a : Arena). IsLive a w) (sym c.arena-arena.ensures.lent)
    (live_from_edge c.args.book.now.arena w c.requires.class.lawful.arena (c.requires.class.edge w m))

pub list_side-requires-clause-all : goal.list_side-requires-clause-all
list_side-requires-clause-all c = λ q m.
    let l : left_of c.args.book.now.arena c.args.winner ≡ Some c.left_part-left.result =
    ap (λ (a : Arena). left_of a c.args.winner) (sym c.arena-arena.ensures.lent) ∙ c.left_part-left.ensures.value in
    let r : right_of c.args.book.now.arena c.args.winner ≡ Some c.right_part-right.result =
    ap (λ (a : Arena). right_of a c.args.winner) (sym c.arena-arena.ensures.lent)
    ∙ c.right_part-right.ensures.value in
    let are : c.left_star-in_front.result.now ≡ (sides_at c.args.book.now.lists c.left_part-left.result).left_star =
    c.left_star-in_front.ensures.lent
    ∙ ap (λ (k : Known). (sides_at k c.left_part-left.result).left_star) c.lists-lists.ensures.lent in
    subst (λ (a : Arena). IsLive a q) (sym c.arena-arena.ensures.lent)
    (c.requires.class.lawful.marked_live q
    ((fronts_are c.args.book.now c.requires.class.lawful c.args.winner c.left_part-left.result
    c.right_part-right.result l r c.left_star-in_front.result.now are q).0 m).1)

pub list_side-requires-2-clause-all : goal.list_side-requires-2-clause-all
list_side-requires-2-clause-all c = λ q m.
    let l : left_of c.args.book.now.arena c.args.winner ≡ Some c.left_part-left.result =
    ap (λ (a : Arena). left_of a c.args.winner) (sym c.arena-arena.ensures.lent) ∙ c.left_part-left.ensures.value in
    let r : right_of c.args.book.now.arena c.args.winner ≡ Some c.right_part-right.result =
    ap (λ (a : Arena). right_of a c.args.winner) (sym c.arena-arena.ensures.lent)
    ∙ c.right_part-right.ensures.value in
    let are : c.right_star-behind.result.now ≡ (sides_at c.args.book.now.lists c.right_part-right.result).right_star =
    c.right_star-behind.ensures.lent ∙ ap (λ (k : Known). (sides_at k c.right_part-right.result).right_star)
    c.lists-lists.ensures.lent in
    subst (λ (a : Arena). IsLive a q) (sym c.arena-arena.ensures.lent)
    (c.requires.class.lawful.marked_live q
    ((behinds_are c.args.book.now c.requires.class.lawful c.args.winner c.left_part-left.result
    c.right_part-right.result l r c.right_star-behind.result.now are q).0 m).1)

-- the only winner of a class lists its joins with all partners
pub returns-then-winners-eq1 : goal.returns-then-winners-eq1
returns-then-winners-eq1 c =
    let l : left_of c.args.book.now.arena c.args.winner ≡ Some c.left_part-left.result =
    ap (λ (a : Arena). left_of a c.args.winner) (sym c.arena-arena.ensures.lent) ∙ c.left_part-left.ensures.value in
    let r : right_of c.args.book.now.arena c.args.winner ≡ Some c.right_part-right.result =
    ap (λ (a : Arena). right_of a c.args.winner) (sym c.arena-arena.ensures.lent)
    ∙ c.right_part-right.ensures.value in
    let fs_are : c.left_star-in_front.result.now ≡ (sides_at c.args.book.now.lists c.left_part-left.result).left_star =
    c.left_star-in_front.ensures.lent
    ∙ ap (λ (k : Known). (sides_at k c.left_part-left.result).left_star) c.lists-lists.ensures.lent in
    let rs_are : c.right_star-behind.result.now ≡ (sides_at c.args.book.now.lists c.right_part-right.result).right_star
    = c.right_star-behind.ensures.lent
    ∙ ap (λ (k : Known). (sides_at k c.right_part-right.result).right_star) c.lists-lists.ensures.lent in
    let fronts =
    fronts_are c.args.book.now c.requires.class.lawful c.args.winner c.left_part-left.result
    c.right_part-right.result l r c.left_star-in_front.result.now fs_are in
    let behinds =
    behinds_are c.args.book.now c.requires.class.lawful c.args.winner c.left_part-left.result
    c.right_part-right.result l r c.right_star-behind.result.now rs_are in
    record {
      listed = on_ok_weaker c.list_all.result
          (winner_whole c.args.book.now c.args.winners.now c.args.winner c.requires.class.lawful
          (c.requires.class.edge c.args.winner c.requires.one) c.left_star-in_front.result.now
          c.right_star-behind.result.now fronts behinds
          c.if-winners-eq1.true c.requires.one c.left_star-in_front.ensures.once c.right_star-behind.ensures.once
          c.args.joins.now.items c.list_all.new.joins.items) c.list_all.ensures.listed;
    }

pub returns : goal.returns
returns c =
    let l : left_of c.args.book.now.arena c.args.winner ≡ Some c.left_part-left.result =
    ap (λ (a : Arena). left_of a c.args.winner) (sym c.arena-arena.ensures.lent) ∙ c.left_part-left.ensures.value in
    let r : right_of c.args.book.now.arena c.args.winner ≡ Some c.right_part-right.result =
    ap (λ (a : Arena). right_of a c.args.winner) (sym c.arena-arena.ensures.lent)
    ∙ c.right_part-right.ensures.value in
    let fs_are : c.left_star-in_front.result.now ≡ (sides_at c.args.book.now.lists c.left_part-left.result).left_star =
    c.left_star-in_front.ensures.lent
    ∙ ap (λ (k : Known). (sides_at k c.left_part-left.result).left_star) c.lists-lists.ensures.lent in
    let rs_are : c.right_star-behind.result.now ≡ (sides_at c.args.book.now.lists c.right_part-right.result).right_star
    = c.right_star-behind.ensures.lent
    ∙ ap (λ (k : Known). (sides_at k c.right_part-right.result).right_star) c.lists-lists.ensures.lent in
    let fronts =
    fronts_are c.args.book.now c.requires.class.lawful c.args.winner c.left_part-left.result
    c.right_part-right.result l r c.left_star-in_front.result.now fs_are in
    let behinds =
    behinds_are c.args.book.now c.requires.class.lawful c.args.winner c.left_part-left.result
    c.right_part-right.result l r c.right_star-behind.result.now rs_are in
    let same = c.arena-arena.ensures.lent in
    record {
      listed = on_ok_weaker c.list_side-2.result
          (λ more. winner_listed c.args.book.now c.args.winners.now c.args.winner c.requires.class.lawful
          (c.requires.class.edge c.args.winner c.requires.one) c.left_star-in_front.result.now
          c.right_star-behind.result.now fronts behinds
          c.args.joins.now.items c.list_side.new.joins.items c.list_side-2.new.joins.items
          (subst (λ (a : Arena). AreAdded
          (ListsFrom a c.args.winners.now c.args.winner Left c.left_star-in_front.result.now) c.args.joins.now.items
          c.list_side.new.joins.items) same c.in_ok-list_side.ensures.listed)
          (subst (λ (a : Arena). AreAdded
          (ListsFrom a c.args.winners.now c.args.winner Right c.right_star-behind.result.now)
          c.list_side.new.joins.items c.list_side-2.new.joins.items) same more)) c.list_side-2.ensures.listed;
    }
