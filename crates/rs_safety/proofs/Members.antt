-- Members of lists, by recursion.
use Rattle.std.proofs.Common.{◌≡◌, List, [], subst}
use Rattle.std.specs.List.{Contains}
pub use Rattle.rs_graph.specs.Lists.{Among}
pub use Rattle.rs_project.proofs.Lists.{contained, contains, among_left, among_right, among_split}

pub no_member : {A : Type 0} (xs : List A) (x : A) → xs ≡ [] → Contains xs x → ⊥
no_member {A} xs x e h = let P : List A → Type 0 = λ z. Among z x in subst P e (contained xs x h)
