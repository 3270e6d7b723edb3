-- What the sink got, call by call.
use Rattle.std.proofs.Common.{◌≡◌, ℕ, suc, get_or, ◌+◌, ◌<◌, ◌≤◌, List, [], ◌∷◌, ◌++◌, length, take, drop, refl, sym, ap, subst, ◌∙◌, arith, append_assoc, append-nil}
use Rattle.std.specs.Prelude.{Option, Some, None, Result, Ok, Err, OnOk, IsErrAnd}
use Rattle.std.specs.Io.KnownBytes.{Appends}
use Rattle.std.proofs.lemmas.List.{take-append-drop, take-append-le, length-append, flat_map_more}
use Rattle.std.proofs.lemmas.Grind.{flat_map-append}
use Rattle.std.proofs.Math.Seq.{take-append-add, take-suc}
use Rattle.apsp_io.specs.Streams.{Rose, GrowsByPrefix}
use Rattle.script_reader.specs.Meaning.{line_of}
use Rattle.script_reader.specs.Refused.{Refusal}
use Rattle.script_reader.specs.declared.Line.{Line}
use Rattle.script_reader.specs.declared.Line.TheVariants as line
use Rattle.std.specs.List.{flat_map}
use Rattle.block_run.specs.declared.answers.Answer.{Answer}
use Rattle.network_replies.specs.Replies.{answer_text}
use Rattle.network_replies.specs.declared.stop.Stop.{Stop}
use Rattle.network_replies.specs.declared.stop.Stop.TheVariants as stop
use Rattle.apsp_service.specs.Session.{State, HasAnswer, HasLineReply, LineHasReply, HasReply, HaveReplies, HaveAllReplies, ending_of, context_of, counted, after_read, after_line, after_lines}
use Rattle.apsp_service.specs.Giving.{Gave, GaveAll, GaveFront, GaveFrontOfAll, StopsAmong, GivingEnds, TextGiven, CertificateGiven}
use Rattle.network_replies.specs.Growing.{LinesGiven, GrowsBy}
use Rattle.apsp_service.specs.Lawful.{IsLawfulState}
use Rattle.apsp_service.proofs.Replied.{replies_append, one_reply, front_of_more, front_behind, front_none}
use Rattle.network_replies.proofs.Seen.{sink_at}

pub appends_nothing : (old : Option (List ℕ)) → Appends old old []
appends_nothing None = tt
appends_nothing (Some xs) = sym (append-nil xs)

pub appends_both : (old mid new : Option (List ℕ)) (xs ys : List ℕ) → Appends old mid xs → Appends mid new ys
    → Appends old new (xs ++ ys)
appends_both None mid new xs ys h k = tt
appends_both (Some os) None new xs ys h k = absurd h
appends_both (Some os) (Some ms) None xs ys h k = absurd k
appends_both (Some os) (Some ms) (Some ns) xs ys h k = k ∙ ap (λ zs. zs ++ ys) h ∙ append_assoc os xs ys

pub rose_later : (before mid after now : ℕ) → before ≤ mid → Rose mid after → after ≤ now → Rose before now
rose_later before mid after now a r b = omega arith

-- a part of a text that a front was given of
front_of_text : (old new : Option (List ℕ)) (text : List ℕ) → GrowsByPrefix old new text → (front : List ℕ)
    × ((rest : List ℕ) × (text ≡ front ++ rest)) × Appends old new front
front_of_text old new text given =
    let k = given.0 in (take k text, (drop k text, sym (take-append-drop k text)), given.2)

front_given : (old new : Option (List ℕ)) (s : State) (content text : List ℕ) → LineHasReply s content text
    → GrowsByPrefix old new text → GaveFront old new s (content ∷ [])
front_given old new s content text reply given =
    let f = front_of_text old new text given in
    let F : List ℕ → Type 0 = λ t. HaveReplies s (content ∷ []) t in
    (f.0, (f.1.0, subst F f.1.1 (one_reply s content text reply)), f.2)

-- ---- the end of the input

pub gave_to_end : (old mid new : Option (List ℕ)) (s : State) (lines : List (List ℕ)) → Gave old mid s lines
    → Appends mid new (ending_of (after_lines s lines)) → GaveAll old new s lines
gave_to_end old mid new s lines h k = (
  h.0 ++ ending_of (after_lines s lines),
  (h.0, h.1, refl),
  appends_both old mid new h.0
      (ending_of (after_lines s lines)) h.2 k,
)

-- a front of the replies to the lines
pub front_to_end : (old new : Option (List ℕ)) (s : State) (lines : List (List ℕ)) → GaveFront old new s lines
    → GaveFrontOfAll old new s lines
front_to_end old new s lines h =
    let ending = ending_of (after_lines s lines) in
    (h.0, (h.1.0 ++ ending, (h.0 ++ h.1.0, h.1.1, sym (append_assoc h.0 h.1.0 ending))), h.2)

-- all of them, and a front of the reply to the end
pub front_in_ending : (old mid new : Option (List ℕ)) (s : State) (lines : List (List ℕ)) → Gave old mid s lines
    → GrowsByPrefix mid new (ending_of (after_lines s lines)) → GaveFrontOfAll old new s lines
front_in_ending old mid new s lines h given =
    let f = front_of_text mid new (ending_of (after_lines s lines)) given in (
      h.0 ++ f.0,
      (f.1.0, (h.0, h.1, append_assoc h.0 f.0 f.1.0 ∙ ap (λ z. h.0 ++ z) (sym f.1.1))),
      appends_both old mid
          new h.0 f.0 h.2 f.2,
    )

-- ---- text after text

prefix_of : (old mid new : Option (List ℕ)) (k : ℕ) (done text rest whole : List ℕ) → whole ≡ done ++ (text ++ rest)
    → k ≤ length text → Appends old mid done → Appends mid new (take k text) → GrowsByPrefix old new whole
prefix_of old mid new k done text rest whole is inside h j =
    let taken : take (length done + k) whole ≡ done ++ take k text =
    ap (take (length done + k)) is ∙ take-append-add done (text ++ rest) k
    ∙ ap (λ z. done ++ z) (take-append-le k text rest inside) in
    let F : List ℕ → Type 0 = λ z. Appends old new z in (
      length done + k,
      omega (arith, inside, ap length is, length-append done (text ++ rest), length-append text rest),
      subst F (sym taken) (appends_both old mid new done (take k text) h j),
    )

-- a stop while one of the texts is given
pub stops_in_text : {A : Type 0} (r : Result A Stop) (e : Stop) (old mid new : Option (List ℕ)) (first before now : ℕ)
    (done text rest whole : List ℕ) → IsErrAnd r (λ y. y ≡ e) → whole ≡ done ++ (text ++ rest) → Appends old mid done
    → first ≤ before → TextGiven {A = Unit {0}} (Err e) (sink_at mid before) (sink_at new now) text
    → LinesGiven r (sink_at old first) (sink_at new now) whole
stops_in_text {A} (Ok a) e old mid new first before now done text rest whole h is before_it l given = absurd h
stops_in_text {A} (Err y) e old mid new first before now done text rest whole h is before_it l given =
    let F : Stop → Type 0 = λ z. LinesGiven {A = A} (Err z) (sink_at old first) (sink_at new now) whole in
    subst F (sym h) (at e given)
  where
    at : (e : Stop) → TextGiven {A = Unit {0}} (Err e) (sink_at mid before) (sink_at new now) text
        → LinesGiven {A = A} (Err e) (sink_at old first) (sink_at new now) whole
    at stop.Source k = k
    at stop.Sink k = (
      prefix_of old mid new k.0.0 done text rest whole is k.0.1 before_it k.0.2,
      rose_later first before now now l
          k.1 (omega arith),
    )
    at stop.Memory k = prefix_of old mid new 0 done text rest whole is (omega arith) before_it k
    at stop.Limit k = k

-- want of memory behind the first texts
pub memory_in_texts : {A : Type 0} (r : Result A Stop) (old mid : Option (List ℕ)) (first before : ℕ) (text : List ℕ)
    (answers : List Answer) (count : ℕ) → IsErrAnd r (λ y. y ≡ stop.Memory)
    → Appends old mid (text ++ flat_map answer_text (take count answers))
    → LinesGiven r (sink_at old first) (sink_at mid before) (text ++ flat_map answer_text answers)
memory_in_texts {A} r old mid first before text answers count h given =
    let done = text ++ flat_map answer_text (take count answers) in
    let rest = flat_map answer_text (drop count answers) in
    let whole : text ++ flat_map answer_text answers ≡ done ++ ([] ++ rest) =
    ap (λ z. text ++ flat_map answer_text z) (sym (take-append-drop count answers))
    ∙ ap (λ z. text ++ z) (flat_map-append answer_text (take count answers) (drop count answers))
    ∙ sym (append_assoc text (flat_map answer_text (take count answers)) rest) in
    memory_at r h whole
  where
    memory_at : (r : Result A Stop) → IsErrAnd r (λ y. y ≡ stop.Memory) → text
        ++ flat_map answer_text answers ≡ (text ++ flat_map answer_text (take count answers))
        ++ ([] ++ flat_map answer_text (drop count answers))
        → LinesGiven r (sink_at old first) (sink_at mid before) (text ++ flat_map answer_text answers)
    memory_at (Ok a) h whole = absurd h
    memory_at (Err y) h whole =
        let F : Stop → Type 0 =
        λ z. LinesGiven {A = A} (Err z) (sink_at old first) (sink_at mid before)
        (text ++ flat_map answer_text answers) in
        subst F (sym h) (prefix_of old mid mid 0 (text ++ flat_map answer_text (take count answers)) []
        (flat_map answer_text (drop count answers)) (text ++ flat_map answer_text answers) whole (omega arith) given
        (appends_nothing mid))

-- the texts up to one more answer
texts_more : (text : List ℕ) (answers : List Answer) (i : ℕ) (item : Answer) → i < length answers
    → get_or answers i item ≡ item → (text ++ flat_map answer_text (take i answers)) ++ answer_text item ≡ text
    ++ flat_map answer_text (take (i + 1) answers)
texts_more text answers i item inside is =
    let next : i + 1 ≡ suc i = omega arith in
    flat_map_more answer_text text (take i answers) item
    ∙ ap (λ z. text ++ flat_map answer_text (take i answers ++ z ∷ [])) (sym is)
    ∙ ap (λ z. text ++ flat_map answer_text z) (sym (take-suc answers i item inside))
    ∙ ap (λ k. text ++ flat_map answer_text (take k answers)) (sym next)

-- the text of an answer, which is all that the buffer has
is_text_of : (cleared put given : List ℕ) (item : Answer) → cleared ≡ [] → put ≡ cleared ++ answer_text item
    → given ≡ put → given ≡ answer_text item
is_text_of cleared put given item none is same = same ∙ is ∙ ap (λ z. z ++ answer_text item) none

pub answer_given : (old mid new : Option (List ℕ)) (text : List ℕ) (answers : List Answer) (i : ℕ) (item : Answer)
    (cleared put given : List ℕ) → i < length answers → get_or answers i item ≡ item
    → Appends old mid (text ++ flat_map answer_text (take i answers)) → cleared ≡ [] → put ≡ cleared ++ answer_text item
    → given ≡ put → Appends mid new given → Appends old new (text ++ flat_map answer_text (take (i + 1) answers))
answer_given old mid new text answers i item cleared put given inside is so_far none put_is same h =
    let F : List ℕ → Type 0 = λ z. Appends old new z in
    let G : List ℕ → Type 0 = λ z. Appends mid new z in
    subst F (texts_more text answers i item inside is)
    (appends_both old mid new (text ++ flat_map answer_text (take i answers)) (answer_text item) so_far
    (subst G (is_text_of cleared put given item none put_is same) h))

pub answer_stops : {A : Type 0} (r : Result A Stop) (e : Stop) (old mid new : Option (List ℕ)) (first before now : ℕ)
    (text : List ℕ) (answers : List Answer) (i : ℕ) (item : Answer) (cleared put given : List ℕ)
    → IsErrAnd r (λ y. y ≡ e) → i < length answers → get_or answers i item ≡ item
    → Appends old mid (text ++ flat_map answer_text (take i answers)) → cleared ≡ [] → put ≡ cleared ++ answer_text item
    → given ≡ put → first ≤ before → TextGiven {A = Unit {0}} (Err e) (sink_at mid before) (sink_at new now) given
    → LinesGiven r (sink_at old first) (sink_at new now) (text ++ flat_map answer_text answers)
answer_stops r e old mid new first before now text answers i item cleared put given h inside is so_far none put_is same
    l stops =
    let done = text ++ flat_map answer_text (take i answers) in
    let rest = flat_map answer_text (drop (i + 1) answers) in
    let G : List ℕ → Type 0 = λ z. TextGiven {A = Unit {0}} (Err e) (sink_at mid before) (sink_at new now) z in
    let whole : text ++ flat_map answer_text answers ≡ done ++ (answer_text item ++ rest) =
    ap (λ z. text ++ flat_map answer_text z) (sym (take-append-drop (i + 1) answers))
    ∙ ap (λ z. text ++ z) (flat_map-append answer_text (take (i + 1) answers) (drop (i + 1) answers))
    ∙ sym (append_assoc text (flat_map answer_text (take (i + 1) answers)) rest)
    ∙ ap (λ z. z ++ rest) (sym (texts_more text answers i item inside is))
    ∙ append_assoc done (answer_text item) rest in
    stops_in_text r e old mid new first before now done (answer_text item) rest (text ++ flat_map answer_text answers) h
    whole so_far l (subst G (is_text_of cleared put given item none put_is same) stops)

-- ---- one line

as_line_reply : (s : State) (l : Line) (text : List ℕ) → (l ≡ line.End → ⊥)
    → HasReply s.vertices s.terms.smooth s.commands l text → HasLineReply s l text
as_line_reply s line.End text other h = absurd (other refl)
as_line_reply s line.Nothing text other h = h
as_line_reply s (line.Vertices n) text other h = h
as_line_reply s (line.Star star) text other h = h
as_line_reply s (line.Edge u v w) text other h = h
as_line_reply s (line.Cut u v) text other h = h
as_line_reply s (line.Dist x y) text other h = h
as_line_reply s (line.Path x y) text other h = h
as_line_reply s (line.Row x) text other h = h
as_line_reply s line.Stats text other h = h
as_line_reply s (line.Age list) text other h = h
as_line_reply s line.Cert text other h = h
as_line_reply s (line.Grow n) text other h = h
as_line_reply s (line.Ecc x) text other h = h
as_line_reply s line.Report text other h = h
as_line_reply s (line.Through v) text other h = h
as_line_reply s line.Block text other h = h
as_line_reply s (line.Ask x y since) text other h = h

pub line_replied : {E : Type 0} (r : Result (Unit {0}) E) (s : State) (content : List ℕ) (l : Line) (old new : List ℕ)
    → line_of (context_of s) content ≡ Ok l → old ≡ [] → (l ≡ line.End → ⊥)
    → OnOk r (GrowsBy (HasReply s.vertices s.terms.smooth s.commands l) old new) → OnOk r (LineHasReply s content new)
line_replied (Err e) s content l old new reading none other h = tt
line_replied (Ok u) s content l old new reading none other h =
    let reply_is : h.0 ≡ new = sym (h.2 ∙ ap (λ o. o ++ h.0) none) in
    let F : List ℕ → Type 0 = λ text. HasLineReply s l text in
    let G : Result Line Refusal → Type 0 = λ read. HasAnswer s read new in
    subst G (sym reading) (subst F reply_is (as_line_reply s l h.0 other h.1))

pub ok_replied : (s : State) (content : List ℕ) (l : Line) (old new : List ℕ) → line_of (context_of s) content ≡ Ok l
    → old ≡ [] → (l ≡ line.End → ⊥) → GrowsBy (HasReply s.vertices s.terms.smooth s.commands l) old new
    → LineHasReply s content new
ok_replied s content l old new reading none other h =
    line_replied {E = Unit {0}} (Ok tt) s content l old new reading none other h

pub text_gives : (r : Result (Unit {0}) Stop) (old new : Option (List ℕ)) (before now : ℕ) (s : State)
    (content text : List ℕ) → IsLawfulState s → LineHasReply s content text
    → TextGiven r (sink_at old before) (sink_at new now) text
    → GivingEnds r (sink_at old before) (sink_at new now) s (content ∷ [])
text_gives (Ok u) old new before now s content text lawful reply given = (text, one_reply s content text reply, given)
text_gives (Err stop.Source) old new before now s content text lawful reply given = given
text_gives (Err stop.Sink) old new before now s content text lawful reply given =
    (front_given old new s content text reply given.0, given.1)
text_gives (Err stop.Memory) old new before now s content text lawful reply given =
    ([], front_none s (content ∷ []) lawful, given)
text_gives (Err stop.Limit) old new before now s content text lawful reply given = given

pub lines_give : (r : Result (Unit {0}) Stop) (old new : Option (List ℕ)) (before now : ℕ) (s : State)
    (content text : List ℕ) → LineHasReply s content text → LinesGiven r (sink_at old before) (sink_at new now) text
    → GivingEnds r (sink_at old before) (sink_at new now) s (content ∷ [])
lines_give (Ok u) old new before now s content text reply given = (text, one_reply s content text reply, given)
lines_give (Err stop.Source) old new before now s content text reply given = given
lines_give (Err stop.Sink) old new before now s content text reply given =
    (front_given old new s content text reply given.0, given.1)
lines_give (Err stop.Memory) old new before now s content text reply given =
    front_given old new s content text reply given
lines_give (Err stop.Limit) old new before now s content text reply given = given

-- the certificate of the state that the line leaves is the reply to the line
pub certificate_gives : (r : Result (Unit {0}) Stop) (old new : Option (List ℕ)) (before now : ℕ) (s : State)
    (content : List ℕ) → line_of (context_of s) content ≡ Ok line.Cert
    → CertificateGiven r (sink_at old before) (sink_at new now) (after_line s content)
    → GivingEnds r (sink_at old before) (sink_at new now) s (content ∷ [])
certificate_gives r old new before now s content reading given =
    let F : Result Line Refusal → Type 0 =
    λ read. CertificateGiven r (sink_at old before) (sink_at new now) (after_read s read) in
    let here : CertificateGiven r (sink_at old before) (sink_at new now) (counted s) = subst F reading given in
    let G : Result Line Refusal → Type 0 = λ read. HasAnswer s read here.0 in
    lines_give r old new before now s content here.0 (subst G (sym reading) here.1) here.2

-- ---- what a `?` passes on

pub memory_ends : {A : Type 0} (r : Result A Stop) (old : Option (List ℕ)) (before now : ℕ) (s : State)
    (lines : List (List ℕ)) → IsLawfulState s → IsErrAnd r (λ e. e ≡ stop.Memory)
    → GivingEnds r (sink_at old before) (sink_at old now) s lines
memory_ends (Ok a) old before now s lines lawful h = absurd h
memory_ends (Err e) old before now s lines lawful h =
    let F : Stop → Type 0 = λ e'. StopsAmong e' (sink_at old before) (sink_at old now) s lines in
    subst F (sym h) ([], front_none s lines lawful, appends_nothing old)

-- ---- call after call

pub gave_nothing : (old : Option (List ℕ)) (s : State) → Gave old old s []
gave_nothing old s = ([], refl, appends_nothing old)

pub gave_more : (old mid new : Option (List ℕ)) (s : State) (xs ys : List (List ℕ)) → Gave old mid s xs
    → Gave mid new (after_lines s xs) ys → Gave old new s (xs ++ ys)
gave_more old mid new s xs ys h k =
    (h.0 ++ k.0, replies_append s xs ys h.0 k.0 h.1 k.1, appends_both old mid new h.0 k.0 h.2 k.2)

front_more : (old mid new : Option (List ℕ)) (s : State) (xs ys : List (List ℕ)) → Gave old mid s xs
    → GaveFront mid new (after_lines s xs) ys → GaveFront old new s (xs ++ ys)
front_more old mid new s xs ys h k =
    (h.0 ++ k.0, front_behind s xs ys h.0 k.0 h.1 k.1, appends_both old mid new h.0 k.0 h.2 k.2)

-- a stop behind replies that were given
pub stops_behind : (e : Stop) (old mid new : Option (List ℕ)) (first before now : ℕ) (s : State) (xs ys : List (List ℕ))
    → Gave old mid s xs → first ≤ before → StopsAmong e (sink_at mid before) (sink_at new now) (after_lines s xs) ys
    → StopsAmong e (sink_at old first) (sink_at new now) s (xs ++ ys)
stops_behind stop.Source old mid new first before now s xs ys h l k = k
stops_behind stop.Sink old mid new first before now s xs ys h l k =
    (front_more old mid new s xs ys h k.0, rose_later first before now now l k.1 (omega arith))
stops_behind stop.Memory old mid new first before now s xs ys h l k = front_more old mid new s xs ys h k
stops_behind stop.Limit old mid new first before now s xs ys h l k = k

front_of_others : (old new : Option (List ℕ)) (s : State) (xs ys : List (List ℕ)) → IsLawfulState s
    → GaveFront old new s xs → GaveFront old new s (xs ++ ys)
front_of_others old new s xs ys lawful h = (h.0, front_of_more s xs ys h.0 lawful h.1, h.2)

-- a stop among the first of some lines
pub stops_among_more : (e : Stop) (old new : Option (List ℕ)) (before now : ℕ) (s : State) (xs ys : List (List ℕ))
    → IsLawfulState s → StopsAmong e (sink_at old before) (sink_at new now) s xs
    → StopsAmong e (sink_at old before) (sink_at new now) s (xs ++ ys)
stops_among_more stop.Source old new before now s xs ys lawful h = h
stops_among_more stop.Sink old new before now s xs ys lawful h = (front_of_others old new s xs ys lawful h.0, h.1)
stops_among_more stop.Memory old new before now s xs ys lawful h = front_of_others old new s xs ys lawful h
stops_among_more stop.Limit old new before now s xs ys lawful h = h
