use Rattle.std.proofs.Common.{◌≡◌, ℕ, ◌++◌, ◌∷◌, [], List, Option, None, ◌∙◌, ap, rules}
use Rattle.book_widening.specs.Copies.{copy_at}
use Rattle.book_widening.proofs.Longer.{room_more}
use Rattle.book_widening.proofs.widening.note.Goals as goal

pub room-preserved : goal.room-preserved
room-preserved c =
    let longer : c.push.new.self.items ≡ c.room.copies.items ++ None ∷ [] = search rules in
    λ k. ap (λ (xs : List (Option ℕ)). copy_at xs k) longer ∙ room_more c.room.copies.items k ∙ c.room.invariant k
