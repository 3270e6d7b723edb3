use Rattle.std.proofs.Common.{◌≡◌, All, vec_len}
use Rattle.version_pool.specs.Pooled.{IsReaderAt}
use Rattle.version_pool.proofs.pool.readers_at.Given as goal

abbrev pub invariant-loop : goal.invariant-loop
invariant-loop l = record {
  len : vec_len l.all ≡ l.counter;
  table : l.seat.table_id ≡ l.initial.seat.table_id;
  me : l.seat.me ≡ l.initial.seat.me;
  own : All (IsReaderAt l.word.table_id l.initial.seat.me.0.slots) l.all.items;
  seen : All (λ r. r.mark ≡ l.mark) l.all.items;
}
