-- Slices that are written back.
use Rattle.std.proofs.Common.{◌≡◌, ℕ, List, length, drop, subst}
use Rattle.std.proofs.Math.Seq.{take-append_seam}
use Rattle.std.specs.List.{refill}

-- what is written back over a whole list is all that stands there
pub refill_whole : (xs ws : List ℕ) → length ws ≡ length xs → refill (length xs) xs ws ≡ ws
refill_whole xs ws e = let P : ℕ → Type 0 = λ z. refill z xs ws ≡ ws in subst P e (take-append_seam ws (drop (length ws) xs))
