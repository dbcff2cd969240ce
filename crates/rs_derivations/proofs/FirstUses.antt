-- The lists of pending acts: each once, none empty, in order of first use.
use Rattle.std.proofs.Common.{◌≡◌, ℕ, Bool, true, false, ◌||◌, if◌then◌else◌, List, [], ◌∷◌, ◌++◌, map, take, drop, refl, sym, ap, ◌∙◌, subst, append-nil, append_assoc}
use Rattle.std.proofs.lemmas.List.{map-append, take-append-drop}
use Rattle.std.proofs.lemmas.List.Folds.{list_any-append}
use Rattle.rs_model.specs.declared.machines.Act.{Act}
use Rattle.rs_derive.specs.Data.{Derivation_data}
use Rattle.rs_derive.specs.Targets.{same_acts}
use Rattle.rs_derive.proofs.Acts.{acts_are}
use Rattle.rs_derivations.specs.PendingLists.{AllNew, is_one_of, lists_of, with_list, with_lists}

-- ---- truth values

or_false : (a : Bool) → (a || false) ≡ a
or_false true = refl
or_false false = refl

or_or : (a b c : Bool) → ((a || b) || c) ≡ (a || (b || c))
or_or true b c = refl
or_or false b c = refl

-- ---- which lists are there

one_of_more : (lists : List (List Act)) (x acts : List Act) → is_one_of (lists ++ x ∷ []) acts ≡ (is_one_of lists acts || same_acts x acts)
one_of_more lists x acts = list_any-append (λ z. same_acts z acts) lists (x ∷ []) ∙ ap (λ z. is_one_of lists acts || z) (or_false (same_acts x acts))

-- a list that is there already adds nothing
known : (lists : List (List Act)) (x acts : List Act) (same : Bool) → is_one_of lists x ≡ true → same_acts x acts ≡ same → is_one_of lists acts ≡ (is_one_of lists acts || same)
known lists x acts false h e = sym (or_false (is_one_of lists acts))
known lists x acts true h e =
    let there : is_one_of lists acts ≡ true = subst (λ (z : List Act). is_one_of lists z ≡ true) (acts_are x acts e) h in
    there ∙ ap (λ z. z || true) (sym there)

added : (lists : List (List Act)) (x acts : List Act) (there : Bool) → is_one_of lists x ≡ there → is_one_of (if there then lists else lists ++ x ∷ []) acts ≡ (is_one_of lists acts || same_acts x acts)
added lists x acts true h = known lists x acts (same_acts x acts) h refl
added lists x acts false h = one_of_more lists x acts

with_list_has : (lists : List (List Act)) (x : List Act) (a : Act) (later : List Act) → is_one_of (with_list lists x) (a ∷ later) ≡ (is_one_of lists (a ∷ later) || same_acts x (a ∷ later))
with_list_has lists [] a later = sym (or_false (is_one_of lists (a ∷ later)))
with_list_has lists (b ∷ bs) a later = added lists (b ∷ bs) (a ∷ later) (is_one_of lists (b ∷ bs)) refl

with_lists_have : (xs lists : List (List Act)) (a : Act) (later : List Act) → is_one_of (with_lists lists xs) (a ∷ later) ≡ (is_one_of lists (a ∷ later) || is_one_of xs (a ∷ later))
with_lists_have [] lists a later = sym (or_false (is_one_of lists (a ∷ later)))
with_lists_have (x ∷ xs) lists a later =
    with_lists_have xs (with_list lists x) a later ∙ ap (λ z. z || is_one_of xs (a ∷ later)) (with_list_has lists x a later)
    ∙ or_or (is_one_of lists (a ∷ later)) (same_acts x (a ∷ later)) (is_one_of xs (a ∷ later))

-- the lists are those of the nodes that have acts
pub lists_are_used : (d : Derivation_data) (a : Act) (later : List Act) → is_one_of (lists_of d) (a ∷ later) ≡ is_one_of (map (λ n. n.pending) d.nodes) (a ∷ later)
lists_are_used d a later = with_lists_have (map (λ n. n.pending) d.nodes) [] a later

-- ---- none is empty

no_acts_added : (lists : List (List Act)) (x : List Act) (there : Bool) → same_acts x [] ≡ false → is_one_of lists [] ≡ false → is_one_of (if there then lists else lists ++ x ∷ []) [] ≡ false
no_acts_added lists x true e h = h
no_acts_added lists x false e h = one_of_more lists x [] ∙ ap (λ z. z || same_acts x []) h ∙ e

no_acts : (xs lists : List (List Act)) → is_one_of lists [] ≡ false → is_one_of (with_lists lists xs) [] ≡ false
no_acts [] lists h = h
no_acts ([] ∷ xs) lists h = no_acts xs lists h
no_acts ((b ∷ bs) ∷ xs) lists h = no_acts xs (with_list lists (b ∷ bs)) (no_acts_added lists (b ∷ bs) (is_one_of lists (b ∷ bs)) refl h)

pub no_list_is_empty : (d : Derivation_data) → is_one_of (lists_of d) [] ≡ false
no_list_is_empty d = no_acts (map (λ n. n.pending) d.nodes) [] refl

-- ---- each is there once

new_behind : (before lists : List (List Act)) (x : List Act) → AllNew before lists → is_one_of (before ++ lists) x ≡ false → AllNew before (lists ++ x ∷ [])
new_behind before [] x h e = (subst (λ (z : List (List Act)). is_one_of z x ≡ false) (append-nil before) e, tt)
new_behind before (l ∷ lists) x h e =
    (h.0, new_behind (before ++ l ∷ []) lists x h.1 (subst (λ (z : List (List Act)). is_one_of z x ≡ false) (sym (append_assoc before (l ∷ []) lists)) e))

new_added : (lists : List (List Act)) (x : List Act) (there : Bool) → is_one_of lists x ≡ there → AllNew [] lists → AllNew [] (if there then lists else lists ++ x ∷ [])
new_added lists x true e h = h
new_added lists x false e h = new_behind [] lists x h e

all_new : (xs lists : List (List Act)) → AllNew [] lists → AllNew [] (with_lists lists xs)
all_new [] lists h = h
all_new ([] ∷ xs) lists h = all_new xs lists h
all_new ((b ∷ bs) ∷ xs) lists h = all_new xs (with_list lists (b ∷ bs)) (new_added lists (b ∷ bs) (is_one_of lists (b ∷ bs)) refl h)

pub each_list_is_new : (d : Derivation_data) → AllNew [] (lists_of d)
each_list_is_new d = all_new (map (λ n. n.pending) d.nodes) [] tt

-- ---- in order of first use

grown : (lists : List (List Act)) (x : List Act) (there : Bool) → (later : List (List Act)) × ((if there then lists else lists ++ x ∷ []) ≡ lists ++ later)
grown lists x true = ([], sym (append-nil lists))
grown lists x false = (x ∷ [], refl)

one_grows : (lists : List (List Act)) (x : List Act) → (later : List (List Act)) × (with_list lists x ≡ lists ++ later)
one_grows lists [] = ([], sym (append-nil lists))
one_grows lists (b ∷ bs) = grown lists (b ∷ bs) (is_one_of lists (b ∷ bs))

grow : (xs lists : List (List Act)) → (later : List (List Act)) × (with_lists lists xs ≡ lists ++ later)
grow [] lists = ([], sym (append-nil lists))
grow (x ∷ xs) lists =
    let one = one_grows lists x in
    let more = grow xs (with_list lists x) in
    (one.0 ++ more.0, more.1 ∙ ap (λ z. z ++ more.0) one.1 ∙ append_assoc lists one.0 more.0)

in_two : (xs ys lists : List (List Act)) → with_lists lists (xs ++ ys) ≡ with_lists (with_lists lists xs) ys
in_two [] ys lists = refl
in_two (x ∷ xs) ys lists = in_two xs ys (with_list lists x)

-- the lists of the first nodes are the first lists
pub first_nodes_have_the_first_lists : (d : Derivation_data) (n : ℕ) → (later : List (List Act)) × (lists_of d ≡ lists_of (record d { nodes = take n d.nodes }) ++ later)
first_nodes_have_the_first_lists d n =
    let front : List (List Act) = map (λ n. n.pending) (take n d.nodes) in
    let back : List (List Act) = map (λ n. n.pending) (drop n d.nodes) in
    let more = grow back (with_lists [] front) in (
      more.0,
      ap (λ z. with_lists [] (map (λ n. n.pending) z)) (sym (take-append-drop n d.nodes)) ∙ ap (λ z. with_lists [] z) (map-append (λ n. n.pending) (take n d.nodes) (drop n d.nodes))
          ∙ in_two front back [] ∙ more.1,
    )
