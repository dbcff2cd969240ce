-- The printed table of a machine is written for its tree.
use Rattle.std.proofs.Common.{◌≡◌, ℕ, suc, ◌+◌, ◌≤◌, List, [], ◌∷◌, ◌++◌, codes, length, map, true, false, Option, Some, None, refl, sym, ◌∙◌, subst, append_assoc, append-nil, arith}
use Rattle.std.proofs.lemmas.List.Elements.{All-head, All-tail}
use Rattle.std.specs.Fmt.{decimal}
use Rattle.std.specs.List.{All, flat_map}
use Rattle.rs_model.specs.Data.{Machine_data, Names_data}
use Rattle.rs_model.specs.declared.graph.Arm.{Arm}
use Rattle.rs_model.specs.declared.graph.Role.{Role}
use Rattle.rs_model.specs.declared.machines.State.{State}
use Rattle.rs_model.specs.declared.machines.State.TheVariants as state
use Rattle.rs_model.specs.declared.values.Sort.{Sort}
use Rattle.rs_bodies.specs.declared.dialects.Mark.{Mark}
use Rattle.rs_bodies.specs.declared.dialects.Mark.TheVariants as mark
use Rattle.rs_bodies.specs.Dialects.{mark_sign}
use Rattle.rs_text.specs.Arms.{sort_text, sort_signs}
use Rattle.rs_text.specs.Bytes.{is_word_byte, is_digit, begins}
use Rattle.rs_text.specs.NamePlaces.{name_at}
use Rattle.rs_text.specs.Shown.{shown_sort, shown_text}
use Rattle.rs_text.specs.Signs.{Sign, end_word, plain, number, bang, question, comma, open_brace, close_brace, open_paren, close_paren}
use Rattle.rs_text.specs.Sound.{IsSound}
use Rattle.rs_text.specs.Words.{is_word, is_role_word}
use Rattle.rs_text.specs.Writing.{IsWritten}
use Rattle.rs_text.proofs.Arms.{sort_is_word}
use Rattle.rs_text.proofs.Written.{nothing_written, joined, before_blank, before_mark, before_word, before_role, before_number}
use Rattle.rs_tables.specs.Canonical.{tree_of_arm, tree_of_choice, tree_of_state, tree_of}
use Rattle.rs_tables.specs.Printable.{IsArmTabled, IsStateTabled, IsTabled}
use Rattle.rs_tables.specs.Tables.{arm_in_table, later_arm_in_table, arms_in_table, choice_in_table, row, rows_from, table_of}
use Rattle.rs_tables.specs.Trees.{arm_signs, later_arm_signs, arms_signs, row_signs, rows_signs, table_signs}
use Rattle.rs_tables.proofs.NamesByPlace.{word_at}

-- ---- shapes

assoc_four : (a b c d : List ℕ) → a ++ b ++ c ++ d ≡ a ++ (b ++ (c ++ d))
assoc_four a b c d = append_assoc (a ++ b) c d ∙ append_assoc a b (c ++ d)

assoc_five : (a b c d e : List ℕ) → a ++ b ++ c ++ d ++ e ≡ a ++ (b ++ (c ++ (d ++ e)))
assoc_five a b c d e = append_assoc (a ++ b ++ c) d e ∙ assoc_four a b c (d ++ e)

-- ---- arms

number_written : (n : ℕ) (behind : List ℕ) → n ≤ 4294967295 → begins is_digit behind ≡ false → IsWritten (number n ∷ []) (decimal n) behind
number_written n behind small e = subst (λ (z : List ℕ). IsWritten (number n ∷ []) z behind) (append-nil (decimal n)) (before_number n [] [] behind small e (nothing_written behind))

closing : (n : ℕ) (behind : List ℕ) → n ≤ 4294967295 → begins is_digit behind ≡ false → IsWritten (close_paren ∷ number n ∷ []) (codes ") " ++ decimal n) behind
closing n behind small e =
    before_mark close_paren (number n ∷ []) (codes ")") (codes " " ++ decimal n) behind refl refl (before_blank 32 (number n ∷ []) (decimal n) behind refl (number_written n behind small e))

sort_written : (q : Option Sort) (n : ℕ) (behind : List ℕ) → n ≤ 4294967295 → begins is_digit behind ≡ false
    → IsWritten (sort_signs q ++ close_paren ∷ number n ∷ []) (shown_text q ++ (codes ") " ++ decimal n)) behind
sort_written None n behind small e = closing n behind small e
sort_written (Some s) n behind small e = before_role (sort_text s) (close_paren ∷ number n ∷ []) (codes ") " ++ decimal n) behind (sort_is_word s) refl (closing n behind small e)

arm_written : (names : Names_data) (a : Arm) (behind : List ℕ) → IsSound names → IsArmTabled names a → begins is_digit behind ≡ false
    → IsWritten (arm_signs (tree_of_arm names a)) (arm_in_table names a) behind
arm_written names a behind sound h e =
    let label : List ℕ = name_at names.labels a.label.0 in
    let q : Option Sort = shown_sort a.sort in
    let more : List Sign = sort_signs q ++ close_paren ∷ number a.next ∷ [] in
    let text : List ℕ = shown_text q ++ (codes ") " ++ decimal a.next) in
    let small = h.next in
    subst (λ (z : List ℕ). IsWritten (arm_signs (tree_of_arm names a)) z behind) (sym (assoc_five label (codes "(") (shown_text q) (codes ") ") (decimal a.next)))
    (before_word label (open_paren ∷ more) (codes "(" ++ text) behind (word_at is_word names.labels a.label.0 sound.labels_are_words h.label) refl
    (before_mark open_paren more (codes "(") text behind refl refl (sort_written q a.next behind (omega arith) e)))

-- behind an arm no digit stands
no_digit : (names : Names_data) (arms : List Arm) (behind : List ℕ) → begins is_digit behind ≡ false → begins is_digit (flat_map (later_arm_in_table names) arms ++ behind) ≡ false
no_digit names [] behind h = h
no_digit names (a ∷ arms) behind h = refl

later_written : (names : Names_data) (arms : List Arm) (behind : List ℕ) → IsSound names → All (IsArmTabled names) arms → begins is_digit behind ≡ false
    → IsWritten (flat_map later_arm_signs (map (tree_of_arm names) arms)) (flat_map (later_arm_in_table names) arms) behind
later_written names [] behind sound h e = nothing_written behind
later_written names (a ∷ arms) behind sound h e =
    let rest : List ℕ = flat_map (later_arm_in_table names) arms in
    joined (later_arm_signs (tree_of_arm names a)) (flat_map later_arm_signs (map (tree_of_arm names) arms)) (later_arm_in_table names a) rest behind
    (before_mark comma (arm_signs (tree_of_arm names a)) (codes ",") (codes " " ++ arm_in_table names a) (rest ++ behind) refl refl
    (before_blank 32 (arm_signs (tree_of_arm names a)) (arm_in_table names a) (rest ++ behind) refl
    (arm_written names a (rest ++ behind) sound (All-head (IsArmTabled names) a arms h) (no_digit names arms behind e))))
    (later_written names arms behind sound (All-tail (IsArmTabled names) a arms h) e)

arms_written : (names : Names_data) (a : Arm) (arms : List Arm) (behind : List ℕ) → IsSound names → All (IsArmTabled names) (a ∷ arms) → begins is_digit behind ≡ false
    → IsWritten (arms_signs (tree_of_arm names a) (map (tree_of_arm names) arms)) (arms_in_table names (a ∷ arms)) behind
arms_written names a arms behind sound h e =
    let rest : List ℕ = flat_map (later_arm_in_table names) arms in
    joined (arm_signs (tree_of_arm names a)) (flat_map later_arm_signs (map (tree_of_arm names) arms)) (arm_in_table names a) rest behind
    (arm_written names a (rest ++ behind) sound (All-head (IsArmTabled names) a arms h) (no_digit names arms behind e))
    (later_written names arms behind sound (All-tail (IsArmTabled names) a arms h) e)

-- ---- rows

abbrev mark_text : Mark → List ℕ
mark_text mark.Puts = codes "!"
mark_text mark.Takes = codes "?"

mark_written : (m : Mark) (signs : List Sign) (text behind : List ℕ) → IsWritten signs text behind → IsWritten (mark_sign m ∷ signs) (mark_text m ++ text) behind
mark_written mark.Puts signs text behind w = before_mark bang signs (codes "!") text behind refl refl w
mark_written mark.Takes signs text behind w = before_mark question signs (codes "?") text behind refl refl w

ends_word : (m : Mark) (text behind : List ℕ) → begins is_word_byte ((mark_text m ++ text) ++ behind) ≡ false
ends_word mark.Puts text behind = refl
ends_word mark.Takes text behind = refl

-- a line as far as its end
abbrev line_signs : ℕ → List Sign → List Sign
line_signs n signs = number n ∷ signs

line_written : (n : ℕ) (signs : List Sign) (text behind : List ℕ) → n ≤ 4294967295 → IsWritten signs (text ++ 10 ∷ []) behind → IsWritten (line_signs n signs) (decimal n ++ codes " " ++ text ++ 10 ∷ []) behind
line_written n signs text behind small w =
    subst (λ (z : List ℕ). IsWritten (line_signs n signs) z behind) (sym (assoc_four (decimal n) (codes " ") text (10 ∷ [])))
    (before_number n signs (codes " " ++ (text ++ 10 ∷ [])) behind small refl (before_blank 32 signs (text ++ 10 ∷ []) behind refl w))

line_end : (behind : List ℕ) → IsWritten [] (10 ∷ []) behind
line_end behind = before_blank 10 [] [] behind refl (nothing_written behind)

done_written : (n : ℕ) (behind : List ℕ) → n ≤ 4294967295 → IsWritten (number n ∷ end_word ∷ []) (decimal n ++ codes " " ++ codes "end" ++ 10 ∷ []) behind
done_written n behind small = line_written n (end_word ∷ []) (codes "end") behind small (before_word (codes "end") [] (10 ∷ []) behind refl refl (line_end behind))

choice_written : (names : Names_data) (n : ℕ) (p : Role) (m : Mark) (arms : List Arm) (behind : List ℕ) → n ≤ 4294967295 → IsSound names → is_role_word (name_at names.roles p.0) ≡ true
    → 1 ≤ length arms → All (IsArmTabled names) arms
    → IsWritten (row_signs n (tree_of_choice names p m arms)) (decimal n ++ codes " " ++ choice_in_table names p (mark_text m) arms ++ 10 ∷ []) behind
choice_written names n p m [] behind small sound w some h = absurd (omega arith)
choice_written names n p m (a ∷ arms) behind small sound w some h =
    let peer : List ℕ = name_at names.roles p.0 in
    let these : List Sign = arms_signs (tree_of_arm names a) (map (tree_of_arm names) arms) in
    let text : List ℕ = arms_in_table names (a ∷ arms) in
    let last : IsWritten (close_brace ∷ []) (codes "}" ++ 10 ∷ []) behind = before_mark close_brace [] (codes "}") (10 ∷ []) behind refl refl (line_end behind) in
    let inner : IsWritten (these ++ close_brace ∷ []) (text ++ (codes "}" ++ 10 ∷ [])) behind
    = joined these (close_brace ∷ []) text (codes "}" ++ 10 ∷ []) behind (arms_written names a arms ((codes "}" ++ 10 ∷ []) ++ behind) sound h refl) last in
    let all : IsWritten (plain peer ∷ mark_sign m ∷ open_brace ∷ (these ++ close_brace ∷ [])) (peer ++ (mark_text m ++ (codes "{" ++ (text ++ (codes "}" ++ 10 ∷ []))))) behind
    = before_role peer (mark_sign m ∷ open_brace ∷ (these ++ close_brace ∷ [])) (mark_text m ++ (codes "{" ++ (text ++ (codes "}" ++ 10 ∷ [])))) behind w
    (ends_word m (codes "{" ++ (text ++ (codes "}" ++ 10 ∷ []))) behind)
    (mark_written m (open_brace ∷ (these ++ close_brace ∷ [])) (codes "{" ++ (text ++ (codes "}" ++ 10 ∷ []))) behind
    (before_mark open_brace (these ++ close_brace ∷ []) (codes "{") (text ++ (codes "}" ++ 10 ∷ [])) behind refl refl inner)) in
    line_written n (plain peer ∷ mark_sign m ∷ open_brace ∷ (these ++ close_brace ∷ [])) (choice_in_table names p (mark_text m) (a ∷ arms)) behind small
    (subst (λ (z : List ℕ). IsWritten (plain peer ∷ mark_sign m ∷ open_brace ∷ (these ++ close_brace ∷ [])) z behind)
    (sym (append_assoc (peer ++ mark_text m ++ codes "{" ++ text) (codes "}") (10 ∷ []) ∙ assoc_five peer (mark_text m) (codes "{") text (codes "}" ++ 10 ∷ []))) all)

row_written : (names : Names_data) (n : ℕ) (s : State) (behind : List ℕ) → n ≤ 4294967295 → IsSound names → IsStateTabled names s → IsWritten (row_signs n (tree_of_state names s)) (row names n s) behind
row_written names n state.Done behind small sound h = done_written n behind small
row_written names n (state.Puts p arms) behind small sound h =
    choice_written names n p mark.Puts arms behind small sound (word_at is_role_word names.roles p.0 sound.roles_are_words h.has_name) h.some h.each
row_written names n (state.Takes p arms) behind small sound h =
    choice_written names n p mark.Takes arms behind small sound (word_at is_role_word names.roles p.0 sound.roles_are_words h.has_name) h.some h.each

rows_written : (names : Names_data) (n : ℕ) (states : List State) (behind : List ℕ) → n + length states ≤ 4294967295 → IsSound names → All (IsStateTabled names) states
    → IsWritten (rows_signs n (map (tree_of_state names) states)) (rows_from names n states) behind
rows_written names n [] behind small sound h = nothing_written behind
rows_written names n (s ∷ states) behind small sound h =
    joined (row_signs n (tree_of_state names s)) (rows_signs (suc n) (map (tree_of_state names) states)) (row names n s) (rows_from names (suc n) states) behind
    (row_written names n s (rows_from names (suc n) states ++ behind) (omega arith) sound (All-head (IsStateTabled names) s states h))
    (rows_written names (suc n) states behind (omega arith) sound (All-tail (IsStateTabled names) s states h))

-- ---- the whole

pub written : (names : Names_data) (m : Machine_data) (behind : List ℕ) → IsSound names → IsTabled names m → IsWritten (table_signs (tree_of names m)) (table_of names m) behind
written names m behind sound h =
    let role : List ℕ = name_at names.roles m.role.0 in
    let rows : List Sign = rows_signs 0 (map (tree_of_state names) m.states) ++ close_brace ∷ [] in
    let text : List ℕ = rows_from names 0 m.states in
    let most = h.bounded in
    let last : IsWritten (close_brace ∷ []) (codes "}" ++ 10 ∷ []) behind = before_mark close_brace [] (codes "}") (10 ∷ []) behind refl refl (line_end behind) in
    let all : IsWritten rows (text ++ (codes "}" ++ 10 ∷ [])) behind =
    joined (rows_signs 0 (map (tree_of_state names) m.states)) (close_brace ∷ []) text (codes "}" ++ 10 ∷ []) behind
    (rows_written names 0 m.states ((codes "}" ++ 10 ∷ []) ++ behind) (omega arith) sound h.states) last in
    let same : IsWritten rows (text ++ codes "}" ++ 10 ∷ []) behind = subst (λ (z : List ℕ). IsWritten rows z behind) (sym (append_assoc text (codes "}") (10 ∷ []))) all in
    let more : List ℕ = 10 ∷ (text ++ codes "}" ++ 10 ∷ []) in
    subst (λ (z : List ℕ). IsWritten (table_signs (tree_of names m)) z behind) (sym (assoc_four (codes "table ") role (codes " {") more))
    (before_role (codes "table") (plain role ∷ open_brace ∷ rows) (codes " " ++ (role ++ (codes " {" ++ more))) behind refl refl
    (before_blank 32 (plain role ∷ open_brace ∷ rows) (role ++ (codes " {" ++ more)) behind refl
    (before_role role (open_brace ∷ rows) (codes " {" ++ more) behind (word_at is_role_word names.roles m.role.0 sound.roles_are_words h.role) refl
    (before_blank 32 (open_brace ∷ rows) (codes "{" ++ more) behind refl
    (before_mark open_brace rows (codes "{") more behind refl refl (before_blank 10 rows (text ++ codes "}" ++ 10 ∷ []) behind refl same))))))
