-- Senders and mirrors from one call to the next.
use Rattle.std.specs.Prelude.{◌≡◌, ℕ, ◌+◌, ◌*◌, ◌≤◌, ◌⊎◌, min, List, [], ◌∷◌, ◌++◌, length, refl}
use Rattle.std.proofs.Common.{sym, ◌∙◌, ap, inl, inr, arith, append_assoc}
use Rattle.std.proofs.lemmas.Nat.{mul-le}
use Rattle.std.proofs.lemmas.List.{length-append, append-nil}
use Rattle.rtrb.specs.Ring.{IsPair, SameProducer, SameConsumer}
use Rattle.rtrb.specs.declared.producer.Producer.{Producer}
use Rattle.rtrb.specs.declared.consumer.Consumer.{Consumer}
use Rattle.change_feed.specs.declared.items.Item.{Item}
use Rattle.change_feed.specs.declared.ends.Sender.{Sender}
use Rattle.change_feed.specs.declared.ends.Mirror.{Mirror}
use Rattle.change_feed.specs.declared.tables.Tables.{Tables}
use Rattle.change_feed.specs.Applied.{Shown, IsShown, shown, apply, applied}
use Rattle.change_feed.specs.Feeds.{opening_of, vertices_shown, IsFeed, IsSenderLater, IsMirrorLater}
use Rattle.change_feed.proofs.Writing.{applied-append}

-- ---- the ends of one ring

pub producer_later : {T A P : Type 0} (p q : Producer T A P) (c : Consumer T A P) → SameProducer p q → IsPair p c
    → IsPair q c
producer_later p q c same pair =
    (pair.0 ∙ sym same.0.0, pair.1 ∙ sym same.0.1, pair.2 ∙ sym same.0.2, pair.3 ∙ sym same.0.3)

pub consumer_later : {T A P : Type 0} (p : Producer T A P) (c d : Consumer T A P) → SameConsumer c d → IsPair p c
    → IsPair p d
consumer_later p c d same pair = (same.0.0 ∙ pair.0, same.0.1 ∙ pair.1, same.0.2 ∙ pair.2, same.0.3 ∙ pair.3)

pub sender_later : (s t : Sender) → SameProducer s.producer t.producer → shown t.opening.value ≡ shown s.opening.value
    → t.last.graph.vertices ≡ s.last.graph.vertices → IsSenderLater s t
sender_later s t same opening vertices = record {
  room = same.1;
  feed = λ m f. record {
    ring = producer_later s.producer t.producer m.consumer same f.ring;
    opening = opening
        ∙ f.opening;
    vertices = vertices ∙ f.vertices;
    unclosed = f.unclosed;
  };
}

pub sender_itself : (s : Sender) → IsSenderLater s s
sender_itself s = record { room = refl; feed = λ m f. f }

pub mirror_later : (m n : Mirror) → SameConsumer m.consumer n.consumer → opening_of n ≡ opening_of m
    → vertices_shown n ≡ vertices_shown m → n.is_closed ≡ m.is_closed → IsMirrorLater m n
mirror_later m n same opening vertices closed = record {
  vertices = vertices;
  opening = opening;
  most = same.1;
  feed = λ s f. record {
    ring = consumer_later s.producer m.consumer n.consumer same f.ring;
    opening = f.opening
        ∙ sym opening;
    vertices = f.vertices ∙ sym vertices;
    unclosed = closed ∙ f.unclosed;
  };
}

pub mirror_itself : (m : Mirror) → IsMirrorLater m m
mirror_itself m = record { vertices = refl; opening = refl; most = refl; feed = λ s f. f }

pub mirror_again : (m n o : Mirror) → IsMirrorLater m n → IsMirrorLater n o → IsMirrorLater m o
mirror_again m n o h k =
    record {
      vertices = k.vertices ∙ h.vertices;
      opening = k.opening ∙ h.opening;
      most = k.most
          ∙ h.most;
      feed = λ s f. k.feed s (h.feed s f);
    }

-- ---- what is shown

pub shown_is : (t : Tables) (s : Shown) → IsShown t s → shown t ≡ s
shown_is t s h = λ i. record { number = h.number i; dist = h.dist i; hops = h.hops i; next = h.next i }

pub is_shown : (t : Tables) (s : Shown) → shown t ≡ s → IsShown t s
is_shown t s e =
    record {
      number = ap (λ (z : Shown). z.number) e;
      dist = ap (λ (z : Shown). z.dist) e;
      hops
          = ap (λ (z : Shown). z.hops) e;
      next = ap (λ (z : Shown). z.next) e;
    }

pub state_all : (t u : Tables) (opening : Shown) (before after items : List Item) → u.vertices ≡ t.vertices
    → shown u ≡ applied t.vertices (shown t) items → IsShown t (applied t.vertices opening before) → after ≡ before
    ++ items → IsShown u (applied u.vertices opening after)
state_all t u opening before after items same made h more =
    is_shown u (applied u.vertices opening after)
    (made
    ∙ ap (λ s. applied t.vertices s items) (shown_is t (applied t.vertices opening before) h)
    ∙ sym (applied-append t.vertices opening before items)
    ∙ ap (applied t.vertices opening) (sym more)
    ∙ ap (λ n. applied n opening after) (sym same))

pub state_push : (t u : Tables) (opening : Shown) (before after : List Item) (i : Item) → u.vertices ≡ t.vertices
    → shown u ≡ apply t.vertices (shown t) i → IsShown t (applied t.vertices opening before) → after ≡ before ++ i ∷ []
    → IsShown u (applied u.vertices opening after)
state_push t u opening before after i same made h more = state_all t u opening before after (i ∷ []) same made h more

-- ---- lists

pub taken_push : (r s rest : List Item) (i : Item) → rest ≡ [] → s ≡ r ++ i ∷ [] → s ++ rest ≡ (r ++ rest) ++ i ∷ []
taken_push r s rest i none e =
    ap (λ l. s ++ l) none ∙ (append-nil s
    ∙ (e ∙ ap (λ l. l ++ i ∷ []) (sym (append-nil r) ∙ ap (λ l. r ++ l) (sym none))))

pub taken_alone : (r rest : List Item) → rest ≡ [] → r ++ rest ≡ r
taken_alone r rest none = ap (λ l. r ++ l) none ∙ append-nil r

pub sent_more : (front back put front' back' more : List Item) → front' ++ back' ≡ front ++ put → put ≡ back ++ more
    → front' ++ back' ≡ (front ++ back) ++ more
sent_more front back put front' back' more e f = e ∙ (ap (λ l. front ++ l) f ∙ sym (append_assoc front back more))

pub full_from : (count room : ℕ) (front back : List Item) → count ≡ length (front ++ back) → (back ≡ [])
    ⊎ (room ≤ length front) → min count room ≤ length front
full_from count room front back e h = elim h [
  | inl none ↦ let f : length (front ++ back) ≡ length front =
      ap length (taken_alone front back none) in omega (arith, e, f)
  | inr full ↦ omega (arith, full)
]

pub square_few : (n : ℕ) → n ≤ 512 → n * n ≤ 262144
square_few n h = omega (arith, mul-le n n 512 512 h h)

pub more_taken : (old mid new : List Item) (k : ℕ) → ((more : List Item) × (mid ≡ old ++ more) × (length more ≤ k))
    → ((new ≡ mid) ⊎ ((i : Item) × (new ≡ mid ++ i ∷ []))) → (more : List Item) × (new ≡ old ++ more)
    × (length more ≤ k + 1)
more_taken old mid new k h step = elim step [
  | inl none ↦ (h.0, none ∙ h.1, omega (arith, h.2))
  | inr one ↦ (
    h.0 ++ one.0 ∷ [],
    one.1 ∙ (ap (λ l. l ++ one.0 ∷ []) h.1 ∙ append_assoc old h.0 (one.0 ∷ [])),
    omega
        (arith, h.2, length-append h.0 (one.0 ∷ [])),
  )
]

-- both ends later on are still those of one feed
pub feed_later : (s t : Sender) (m n : Mirror) → IsFeed s m → IsSenderLater s t → IsMirrorLater m n → IsFeed t n
feed_later s t m n f h k = k.feed t (h.feed m f)
