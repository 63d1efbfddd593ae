use Rattle.std.proofs.Common.{ℕ, sym}
use lib.ListN.{length-replicate}
use Rattle.replay.proofs.main.Goals as goal

pub slice_bounds-read_full-end : goal.slice_bounds-read_full-end
slice_bounds-read_full-end c = sym {0} (length-replicate {0} {A = ℕ} 800000 0)

pub slice_bounds-replay_all-end-2 : goal.slice_bounds-replay_all-end-2
slice_bounds-replay_all-end-2 c = sym {0} (length-replicate {0} {A = ℕ} 1441792 0)
