-- Public: the different lists of pending acts of a derivation, by their numbers.
use Rattle.std.specs.Prelude.{◌≡◌, ℕ, suc, Bool, false, List, [], ◌∷◌, ◌++◌, map, if◌then◌else◌}
use Rattle.std.specs.List.{list_any}
use Rattle.rs_model.specs.declared.machines.Act.{Act}
use Rattle.rs_derive.specs.Data.{Derivation_data}
use Rattle.rs_derive.specs.Targets.{same_acts}

-- the list is one of these
abbrev pub is_one_of : List (List Act) → List Act → Bool
is_one_of lists acts = list_any (λ x. same_acts x acts) lists

-- these lists, with one more after them where it has acts and isn't there
abbrev pub with_list : List (List Act) → List Act → List (List Act)
with_list lists [] = lists
with_list lists (a ∷ later) = if is_one_of lists (a ∷ later) then lists else lists ++ (a ∷ later) ∷ []

-- these lists, with further ones after them in order of their first places
abbrev pub with_lists : List (List Act) → List (List Act) → List (List Act)
with_lists lists [] = lists
with_lists lists (x ∷ xs) = with_lists (with_list lists x) xs

-- the lists of pending acts that have any, each once, in order of first use
abbrev pub lists_of : Derivation_data → List (List Act)
lists_of d = with_lists [] (map (λ n. n.pending) d.nodes)

-- each of these lists is another one than those before it
abbrev pub AllNew : (before lists : List (List Act)) → Type 0
AllNew before [] = Unit {0}
AllNew before (x ∷ xs) = (is_one_of before x ≡ false) × AllNew (before ++ x ∷ []) xs

-- the place of a list among these, where the first of them has the number n
abbrev pub number_from : ℕ → List (List Act) → List Act → ℕ
number_from n [] acts = 0
number_from n (x ∷ xs) acts = if same_acts x acts then n else number_from (suc n) xs acts

-- the number of a list: its place from 1 on, and 0 for no acts
abbrev pub list_number : List (List Act) → List Act → ℕ
list_number lists [] = 0
list_number lists (a ∷ later) = number_from 1 lists (a ∷ later)
