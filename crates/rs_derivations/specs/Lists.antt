-- Public: lists as texts have them: one after another, with something between.
use Rattle.std.specs.Prelude.{List, [], ◌∷◌, ◌++◌}

-- what stands for each of these, with the separator before it
abbrev pub with_separators : {A B : Type 0} → List B → (A → List B) → List A → List B
with_separators separator shown [] = []
with_separators separator shown (x ∷ xs) = separator ++ (shown x ++ with_separators separator shown xs)

-- what stands for each of these, with the separator between each and the next
abbrev pub list_with_separators : {A B : Type 0} → List B → (A → List B) → List A → List B
list_with_separators separator shown [] = []
list_with_separators separator shown (x ∷ xs) = shown x ++ with_separators separator shown xs
