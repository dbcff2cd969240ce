use Rattle.std.proofs.Common.{◌+◌, ◌*◌, ◌-◌, length}
use Rattle.rs_pictures.proofs.sequences.+drawing.Given as goal

abbrev pub decreases-draw_place : goal.decreases-draw_place
decreases-draw_place l = (length l.protocol.now.nodes + 1 - l.from) * 1000000000000000000000

abbrev pub decreases-draw_loop : goal.decreases-draw_loop
decreases-draw_loop l = (length l.protocol.now.nodes - l.number) * 1000000000000000000000 + 500000000000000000001

abbrev pub decreases-draw_talk : goal.decreases-draw_talk
decreases-draw_talk l = (length l.protocol.now.nodes - l.number) * 1000000000000000000000 + 500000000000000000000

abbrev pub decreases-draw_cases : goal.decreases-draw_cases
decreases-draw_cases l = (length l.protocol.now.nodes + 1 - l.from) * 1000000000000000000000 + length l.arms.now + 1
