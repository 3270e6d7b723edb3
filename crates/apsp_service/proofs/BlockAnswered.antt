-- A block always has a reply: all questions answered from the last graph.
use Rattle.std.proofs.Common.{◌≡◌, ℕ, zero, suc, ◌+◌, ◌<◌, ◌≤◌, List, [], ◌∷◌, length, get_or, refl, sym, ap, subst, ◌∙◌, arith}
use Rattle.std.specs.Prelude.{Option, Some, None, All, IfSome}
use Rattle.std.specs.List.{flat_map}
use Rattle.std.proofs.lemmas.List.Elements.{All-head, All-tail}
use Rattle.apsp_model.proofs.Exists.{least_is_some_option}
use Rattle.block_run.specs.declared.asks.Ask.{Ask}
use Rattle.block_run.specs.declared.answers.Answer.{Answer}
use Rattle.std.specs.Prelude.{unwrap_or}
use Rattle.graph_store.specs.Plan.{Plan, plan_graph, hi_of}
use Rattle.version_face.specs.Entries.{dist_in}
use Rattle.block_run.specs.Answers.{IsAskOf, IsAnswer, BlockReply}
use Rattle.network_replies.specs.Blocks.{Block}
use Rattle.network_replies.specs.Replies.{answer_text}
use Rattle.apsp_service.specs.Session.{State, HasBlockReply}
use Rattle.apsp_service.specs.Lawful.{IsBlockOf, IsLawfulState}

-- an answer from the last graph
record IsFromLast (p : Plan) (ask : Ask) (a : Answer) : Type 0 where
  answer : IsAnswer p ask a
  number : a.number ≡ hi_of p

last_answer : (p : Plan) (ask : Ask) → IsAskOf p ask → (a : Answer) × IsFromLast p ask a
last_answer p ask h =
    let g = plan_graph p (hi_of p) in
    let walk = least_is_some_option g ask.x ask.y in (
      record { number = hi_of p; x = ask.x; y = ask.y; dist = dist_in g walk.0; walk = unwrap_or walk.0 [] },
      record {
        answer = record {
          x = refl;
          y = refl;
          from_since = omega (arith, h.since);
          to_hi = omega arith;
          found
              = record { walk = walk.0; least = walk.1; dist = refl; is = refl };
        };
        number = refl;
      },
    )

record AreFromLast (p : Plan) (asks : List Ask) (answers : List Answer) : Type 0 where
  len : length answers ≡ length asks
  each : (i : ℕ) (d : Ask) (e : Answer) → i < length asks → IsFromLast p (get_or asks i d) (get_or answers i e)

last_answers : (p : Plan) (asks : List Ask) → All (IsAskOf p) asks → (answers : List Answer)
    × AreFromLast p asks answers
last_answers p [] h = ([], record { len = refl; each = λ i d e l. absurd (omega (arith, l)) })
last_answers p (ask ∷ asks) h =
    let first = last_answer p ask (All-head (IsAskOf p) ask asks h) in
    let others = last_answers p asks (All-tail (IsAskOf p) ask asks h) in
    (first.0 ∷ others.0, record { len = omega (arith, others.1.len); each = each first.0 others.0 first.1 others.1 })
  where
    each : (a : Answer) (rest : List Answer) → IsFromLast p ask a → AreFromLast p asks rest
        → (i : ℕ) (d : Ask) (e : Answer) → i < length (ask ∷ asks)
        → IsFromLast p (get_or (ask ∷ asks) i d) (get_or (a ∷ rest) i e)
    each a rest one more zero d e l = one
    each a rest one more (suc i) d e l = more.each i d e (omega (arith, l))

pub some_block_reply : (p : Plan) (asks : List Ask) (readers : ℕ) → All (IsAskOf p) asks → (answers : List Answer)
    × BlockReply p asks readers answers
some_block_reply p asks readers h =
    let r = last_answers p asks h in (
      r.0,
      record {
        len = r.1.len;
        each = λ i d e l. (r.1.each i d e l).answer;
        rising = λ i j e before below same. at r.0 r.1 i j e before below;
      },
    )
  where
    no_ask : Ask
    no_ask = record { x = 0; y = 0; since = 0 }

    at : (answers : List Answer) → AreFromLast p asks answers → (i j : ℕ) (e : Answer) → i < j → j < length asks
        → (get_or answers i e).number ≤ (get_or answers j e).number
    at answers r i j e before below =
        let a = (r.each i no_ask e (omega (arith, before, below))).number in
        let b = (r.each j no_ask e below).number in
        omega (arith, a, b)

pub block_reply_exists : (s : State) → IsLawfulState s → (text : List ℕ) × HasBlockReply s.terms.readers s.block text
block_reply_exists s h = at s.terms.readers s.block h.block
  where
    at : (readers : Option ℕ) (o : Option Block) → IfSome o (IsBlockOf s.vertices s.commands) → (text : List ℕ)
        × HasBlockReply readers o text
    at None o k = ([], refl)
    at (Some readers) None k = ([], refl)
    at (Some readers) (Some b) k =
        let r = some_block_reply b.plan b.asks readers k.asks in (flat_map answer_text r.0, (r.0, r.1, refl))
