-- Public: the figures of a derivation, and the room by them.
use Rattle.std.specs.Prelude.{ℕ, suc, ◌+◌, ◌*◌, ◌≤◌, List, All, map, length}
use Rattle.rs_derive.specs.Data.{DNode_data, Derivation_data}
use Rattle.rs_derive.specs.Figures.{greatest}
use Rattle.rs_model.specs.declared.limits.TheConstants.{MOST_BOUND}
use Rattle.rs_safety.specs.Room.{longest, top_rank}
use Rattle.rs_safety.specs.declared.rooms.Figures.{Figures}

-- no node owes more acts than a derivation may be bounded by
abbrev pub OwesFew : Derivation_data → Type 0
OwesFew d = All (λ (n : DNode_data). length n.pending ≤ MOST_BOUND) d.nodes

-- how many nodes the derivation has, the most acts that are owed at one of them, and the greatest rank
abbrev pub figures_of : Derivation_data → Figures
figures_of d = record { nodes = length d.nodes; owed = longest d; rank = top_rank d }

-- the lag
abbrev pub lag_by : Figures → ℕ
lag_by f = f.owed * suc f.rank

-- the room
abbrev pub room_by : List Figures → ℕ
room_by figures = 1 + greatest (map (λ (f : Figures). f.owed) figures) 0 + greatest (map lag_by figures) 0
