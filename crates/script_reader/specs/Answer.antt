-- What the reader answers, and what an accepted line promises.
use Rattle.std.specs.Prelude.{◌≡◌, ◌≢◌, ℕ, ◌+◌, ◌<◌, ◌≤◌, true, false, ⊤, List, [], ◌∷◌, length, min, All, Option, Some, None, Result, Ok, Err}
use Rattle.std.specs.declared.alloc.Global.{Global}
use Rattle.std.specs.declared.vec.Vec.{Vec}
use Rattle.apsp_model.specs.Star.{Star as Star_model, IsStar}
use Rattle.apsp_model.specs.declared.TheConstants.{MOST_VERTICES}
use Rattle.graph_store.specs.Making.{IsVertexCount}
use Rattle.graph_store.specs.Edges.{IsWeight}
use Rattle.graph_store.specs.declared.star.StarError.{StarError}
use Rattle.graph_store.specs.declared.star.StarError.TheVariants.{Vertex, SelfEdge, Repeat, Weight, Memory as Star_memory}
use Rattle.script_reader.specs.declared.code.TheConstants.{SHAPE, VERTEX, SELF_EDGE, REPEAT, WEIGHT}
use Rattle.script_reader.specs.declared.Context.{Context}
use Rattle.script_reader.specs.declared.LineError.{LineError}
use Rattle.script_reader.specs.declared.LineError.TheVariants.{Refused, Memory}
use Rattle.script_reader.specs.declared.Line.{Line}
use Rattle.script_reader.specs.declared.Line.TheVariants.{Vertices, Star, Edge, Cut, Dist, Path, Row, Stats, Age, Cert, Block, Ask, End, Grow, Ecc, Report, Through}
use Rattle.script_reader.specs.declared.scan.Word.{Word}
use Rattle.script_reader.specs.declared.scan.Words.{Words}
use Rattle.script_reader.specs.Scan.{words_left}
use Rattle.script_reader.specs.Refused.{Refusal, refused}

-- the answer is the meaning, unless memory ran out
abbrev pub MeaningIs : {A : Type 0} → Result A Refusal → Result A LineError → Type 0
MeaningIs meaning (Ok x) = meaning ≡ Ok x
MeaningIs meaning (Err (Refused code place)) = meaning ≡ refused code place
MeaningIs meaning (Err Memory) = ⊤

-- the same of a star that is changed
abbrev pub IsSetAnswer : Result Star_model Refusal → Result (Unit {0}) LineError → Star_model → Type 0
IsSetAnswer meaning (Ok _) new = meaning ≡ Ok new
IsSetAnswer meaning (Err (Refused code place)) new = meaning ≡ refused code place
IsSetAnswer meaning (Err Memory) new = ⊤

-- the same of a vector as its list
abbrev pub IsListAnswer : Result (List ℕ) Refusal → Result (Vec ℕ Global) LineError → Type 0
IsListAnswer meaning (Ok v) = meaning ≡ Ok v.items
IsListAnswer meaning (Err (Refused code place)) = meaning ≡ refused code place
IsListAnswer meaning (Err Memory) = ⊤

-- a star's refusal of an edge, as that of the word
abbrev pub star_refused : StarError → ℕ → LineError
star_refused Vertex place = Refused VERTEX place
star_refused SelfEdge place = Refused SELF_EDGE place
star_refused Repeat place = Refused REPEAT place
star_refused Weight place = Refused WEIGHT place
star_refused Star_memory place = Memory

-- the words that are left are the given ones, with their numbers, or there are fewer or more of them
abbrev pub IsMiscount : Words → ℕ → LineError → Type 0
IsMiscount words count (Refused code place) =
    (length (words_left words) ≢ count) × (code ≡ SHAPE) × (place ≡ min (length (words_left words)) count + words.place)
IsMiscount words count Memory = ⊥

abbrev pub IsOne : Words → Result Word LineError → Type 0
IsOne words (Ok a) = (words_left words ≡ a.bytes.now ∷ []) × (a.place ≡ words.place)
IsOne words (Err e) = IsMiscount words 1 e

abbrev pub AreTwo : Words → Result (Word × Word) LineError → Type 0
AreTwo words (Ok p) =
    (words_left words ≡ p.0.bytes.now ∷ p.1.bytes.now ∷ []) × (p.0.place ≡ words.place) × (p.1.place ≡ words.place + 1)
AreTwo words (Err e) = IsMiscount words 2 e

abbrev pub AreThree : Words → Result (Word × Word × Word) LineError → Type 0
AreThree words (Ok p) = (words_left words ≡ p.0.bytes.now ∷ p.1.bytes.now ∷ p.2.bytes.now ∷ [])
    × (p.0.place ≡ words.place) × (p.1.place ≡ words.place + 1) × (p.2.place ≡ words.place + 2)
AreThree words (Err e) = IsMiscount words 3 e

-- a word that has to stand
abbrev pub IsRequired : Words → Result Word LineError → Words → Type 0
IsRequired old (Ok word) new =
    (words_left old ≡ word.bytes.now ∷ words_left new) × (word.place ≡ old.place) × (new.place ≡ old.place + 1)
IsRequired old (Err (Refused code place)) new = (words_left old ≡ []) × (code ≡ SHAPE) × (place ≡ old.place)
IsRequired old (Err Memory) new = ⊥

-- no further word may stand
abbrev pub IsAtEnd : Words → Result (Unit {0}) LineError → Type 0
IsAtEnd words (Ok _) = words_left words ≡ []
IsAtEnd words (Err (Refused code place)) = (0 < length (words_left words)) × (code ≡ SHAPE) × (place ≡ words.place)
IsAtEnd words (Err Memory) = ⊥

-- the bytes of a word that may stand
abbrev pub bytes_of : Option Word → Option (List ℕ)
bytes_of None = None
bytes_of (Some word) = Some word.bytes.now

-- the word of the number behind `since`, which is the fifth of its line
abbrev pub IsSinceAnswer : Result (Option (List ℕ)) Refusal → Result (Option Word) LineError → Type 0
IsSinceAnswer meaning (Ok None) = meaning ≡ Ok None
IsSinceAnswer meaning (Ok (Some word)) = (meaning ≡ Ok (Some word.bytes.now)) × (word.place ≡ 5)
IsSinceAnswer meaning (Err (Refused code place)) = meaning ≡ refused code place
IsSinceAnswer meaning (Err Memory) = ⊤

-- an accepted line may stand where it does, and its numbers are in range
abbrev pub FitsContext : Context → Line → Type 0
FitsContext context (Vertices m) = (context.inside ≡ false) × IsVertexCount m
FitsContext context (Star s) = (s.vertices ≡ context.vertices) × IsStar s
FitsContext context (Edge u v w) = (u < context.vertices) × (v < context.vertices) × (u ≢ v) × IsWeight w
FitsContext context (Cut u v) = (u < context.vertices) × (v < context.vertices) × (u ≢ v)
FitsContext context (Dist x y) = (context.inside ≡ false) × (x < context.vertices) × (y < context.vertices)
FitsContext context (Path x y) = (context.inside ≡ false) × (x < context.vertices) × (y < context.vertices)
FitsContext context (Row x) = (context.inside ≡ false) × (x < context.vertices)
FitsContext context Stats = (context.inside ≡ false) × (0 < context.vertices)
FitsContext context (Age list) = (context.inside ≡ false) × (context.no_age ≡ false)
    × (0 < length list) × All (λ x. x < context.vertices) list
FitsContext context Cert = (context.inside ≡ false) × (0 < context.vertices)
FitsContext context Block = (context.live ≡ true) × (context.inside ≡ false) × (0 < context.vertices)
FitsContext context (Ask x y since) =
    (context.inside ≡ true) × (x < context.vertices) × (y < context.vertices) × (since ≤ context.updates)
FitsContext context End = context.inside ≡ true
FitsContext context (Grow m) = (context.inside ≡ false) × (context.no_grow ≡ false)
    × (context.vertices < m) × (m ≤ MOST_VERTICES)
FitsContext context (Ecc x) = (context.inside ≡ false) × (x < context.vertices)
FitsContext context Report = (context.inside ≡ false) × (0 < context.vertices)
FitsContext context (Through v) = (context.inside ≡ false) × (v < context.vertices)
FitsContext context _ = ⊤
