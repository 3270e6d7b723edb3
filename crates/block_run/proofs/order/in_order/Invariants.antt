use Rattle.std.proofs.Common.{◌≡◌, ℕ, ◌/◌, ◌%◌, ◌<◌, ◌≤◌, vec_len, slice_index_or}
use Rattle.block_run.specs.declared.answers.Answer.{Answer}
use Rattle.block_run.proofs.order.in_order.Given as goal

abbrev pub invariant-asks : goal.invariant-asks
invariant-asks l = record {
  count : vec_len l.lists ≡ vec_len l.initial.lists;
  lens : (q : ℕ) (d : _) → q < vec_len l.initial.lists
      → vec_len (slice_index_or l.lists.items q d) ≡ vec_len (slice_index_or l.initial.lists.items q d);
  put : vec_len l.all ≡ l.i;
  made : (j : ℕ) (d : _) (e : Answer) → j < l.i
      → slice_index_or l.all.items j e ≡ slice_index_or (slice_index_or l.initial.lists.items (j % l.readers) d).items
      (j / l.readers) e;
  left : (j : ℕ) (d : _) (e : Answer) → l.i ≤ j → j < l.count
      → slice_index_or (slice_index_or l.lists.items (j % l.readers) d).items (j / l.readers) e ≡ slice_index_or
      (slice_index_or l.initial.lists.items (j % l.readers) d).items (j / l.readers) e;
}
