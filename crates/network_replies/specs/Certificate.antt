-- The reply to `cert`: the certificate of the present version.
use Rattle.std.specs.Prelude.{◌≡◌, ℕ, List, length}
use Rattle.apsp_model.specs.Command.{Command, graph_of, vertices_of}
use Rattle.apsp_model.specs.Stated.{Stated}
use Rattle.history_engine.specs.Seen.{EngineSeen as Engine}
use Rattle.version_face.specs.Seen.{VersionSeen}
use Rattle.certificate.specs.Grammar.{text_of}
use Rattle.certificate.specs.Giving.{IsStatedOf}

-- the graph after these commands on n vertices, and how many updates there were
abbrev pub version_after : ℕ → List Command → VersionSeen
version_after n commands = record { number = length (vertices_of commands); graph = graph_of n commands }

-- the graph and the number of updates of an engine
abbrev pub version_of : Engine → VersionSeen
version_of e = record { number = length e.vertices; graph = e.graph }

-- the text of what a version states
abbrev pub IsTextOf : VersionSeen → List ℕ → Type 0
IsTextOf version text = (s : Stated) × IsStatedOf version s × (text ≡ text_of s)

abbrev pub IsCertReply : ℕ → List Command → List ℕ → Type 0
IsCertReply n commands text = IsTextOf (version_after n commands) text
