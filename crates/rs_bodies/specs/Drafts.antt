-- Public: heads that are still read, and what is made of them.
use Rattle.std.specs.Prelude.{ℕ, List, [], ◌∷◌, ◌++◌, length, map, Option, Some, None, slice_set}
use Rattle.rs_model.specs.Data.{Names_data}
use Rattle.rs_model.specs.declared.graph.Arm.{Arm}
use Rattle.rs_bodies.specs.declared.drafts.DraftArm.{DraftArm}
use Rattle.rs_bodies.specs.Data.{Draft_data, Point_data, Reader_data, Spelling_data}

-- an end has the number behind the last act
abbrev pub settled_target : ℕ → Option ℕ → ℕ
settled_target last None = last
settled_target last (Some n) = n

-- an arm that was read, with the number to which it leads
abbrev pub settled_arm : ℕ → DraftArm → Arm
settled_arm last a = record { label = a.label; sort = a.sort; next = settled_target last a.next }

-- an act that was read, as a state
abbrev pub point_of_draft : ℕ → Draft_data → Point_data
point_of_draft last d = record { head = d.head; arms = map (settled_arm last) d.arms }

-- an act with one more arm
abbrev pub with_arm : DraftArm → Option Draft_data → List Draft_data → ℕ → List Draft_data
with_arm arm None drafts k = drafts
with_arm arm (Some d) drafts k = slice_set drafts k (record { head = d.head; arms = d.arms ++ arm ∷ [] })

-- what was read
abbrev pub spelling_read : Reader_data → Spelling_data
spelling_read r = record { role = r.role; points = map (point_of_draft (length r.drafts)) r.drafts; ended = r.ended; start = settled_target (length r.drafts) r.start }

-- the names that were read
abbrev pub names_read : Reader_data → Names_data
names_read r = record { roles = r.roles; labels = r.labels }
