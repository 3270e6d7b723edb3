-- A run over generated input has one line.
use Rattle.std.proofs.Common.{◌≡◌, ℕ, zero, suc, ◌*◌, List, refl, sym, ap, subst, ◌∙◌}
use Rattle.std.specs.Prelude.{false}
use Rattle.std.specs.List.{sum_by}
use Rattle.std.specs.FinMap as map
use Rattle.apsp_model.specs.Command.{graph_of}
use Rattle.apsp_model.specs.Grows.{GrowsFit}
use Rattle.apsp_model.specs.Counts.{Counts}
use Rattle.apsp_model.specs.Stated.{Stated}
use Rattle.fixup_math.proofs.Uniques.{counts_unique}
use Rattle.history_engine.proofs.Existing.{counts_exist}
use Rattle.version_face.specs.Seen.{VersionSeen}
use Rattle.certificate.specs.Giving.{IsStatedOf}
use Rattle.certificate.proofs.Versions.{value_of, value_is}
use Rattle.certificate.proofs.VersionLaws.{one_stated_of}
use Rattle.load_run.specs.declared.LoadReport.{LoadReport}
use Rattle.load_run.specs.Draws.{drawn_updates, load_updates}
use Rattle.load_run.specs.Report.{IsReport, dist_of}
use Rattle.apsp_service.specs.Load.{load_text, IsLoadReply}

-- the last version, of this number
last_version : ℕ → ℕ → ℕ → VersionSeen
last_version n seed number = record { number = number; graph = graph_of n (load_updates n seed) }

-- no grow is drawn
drawn_fit : (n seed k : ℕ) → GrowsFit n (drawn_updates n seed k)
drawn_fit n seed zero = tt
drawn_fit n seed (suc k) = drawn_fit n seed k

pub load_exists : (n seed : ℕ) → (text : List ℕ) × IsLoadReply n seed text
unfolding last_version
load_exists n seed =
    let c = counts_exist n false (load_updates n seed) (drawn_fit n seed (2 * n)) in
    let s : Stated = value_of (last_version n seed c.0.updates) in
    let r : LoadReport =
    record {
      updates = c.0.updates;
      pairs = map.len s.entries;
      sum = sum_by dist_of (map.entries s.entries);
      paths
          = c.0.paths;
      historical = c.0.historical;
    } in
    let is : IsReport n seed r = record {
      counts = c.0;
      are = c.1;
      updates = refl;
      paths = refl;
      historical = refl;
      stated = s;
      version = value_is (last_version n seed c.0.updates);
      distances = record { count = refl; total = refl };
    } in
    (load_text n seed r, (r, is, refl))

one_report : (n seed : ℕ) (r q : LoadReport) → IsReport n seed r → IsReport n seed q → r ≡ q
unfolding last_version
one_report n seed r q h k =
    let counts : h.counts ≡ k.counts = counts_unique n false (load_updates n seed) h.counts k.counts h.are k.are in
    let updates : r.updates ≡ q.updates = h.updates ∙ ap (λ (c : Counts). c.updates) counts ∙ sym k.updates in
    let paths : r.paths ≡ q.paths = h.paths ∙ ap (λ (c : Counts). c.paths) counts ∙ sym k.paths in
    let historical : r.historical ≡ q.historical =
    h.historical ∙ ap (λ (c : Counts). c.historical) counts ∙ sym k.historical in
    let there : IsStatedOf (last_version n seed r.updates) k.stated =
    subst (λ u. IsStatedOf (last_version n seed u) k.stated) (sym updates) k.version in
    let stated : h.stated ≡ k.stated =
    one_stated_of (last_version n seed r.updates) h.stated k.stated h.version there in
    let pairs : r.pairs ≡ q.pairs =
    h.distances.count ∙ ap (λ (s : Stated). map.len s.entries) stated ∙ sym k.distances.count in
    let sum : r.sum ≡ q.sum =
    h.distances.total ∙ ap (λ (s : Stated). sum_by dist_of (map.entries s.entries)) stated
    ∙ sym k.distances.total in
    λ i. record { updates = updates i; pairs = pairs i; sum = sum i; paths = paths i; historical = historical i }

pub one_load : (n seed : ℕ) (t u : List ℕ) → IsLoadReply n seed t → IsLoadReply n seed u → t ≡ u
one_load n seed t u h k = h.2 ∙ ap (load_text n seed) (one_report n seed h.0 k.0 h.1 k.1) ∙ sym k.2
