-- What the grammar spells is taken by clap, and its rows are those of the uses.
use Rattle.std.proofs.Common.{◌≡◌, ◌==◌, ℕ, Bool, true, false, ◌&&◌, ◌||◌, List, [], ◌∷◌, ◌++◌, map, Option, Some, None, option_map, cond, refl, sym, ap, ap₂, subst, ◌∙◌, true≢false, codes}
use Rattle.std.specs.Prelude.{flat_map}
use Rattle.std.specs.List.{list_any}
use Rattle.std.specs.Str.{bytes_eq}
use Rattle.std.proofs.lemmas.List.{append_assoc}
use Rattle.std.proofs.lemmas.Slice.Eq.{bytes_eq-Decides}
use Rattle.clap.specs.Lexer.{long_of, name_and_value}
use Rattle.clap.specs.Kinds.{or_else}
use Rattle.clap.specs.Walk.{Walk, arg_by_id, arg_by_index, arg_by_long, settled, used, walked}
use Rattle.clap.specs.Faults.{settle_fault, turn_fault, use_fault}
use Rattle.clap.proofs.LexerLemmas.{name_and_value-at, name_and_value-without}
use Rattle.clap.specs.declared.error.kind.ErrorKind.TheVariants as kind
use Rattle.rs_words.specs.Clap.{dashes_are_allowed, dash_is_allowed}
use Rattle.rs_words.specs.Grammar.{AllNew, AllStand, EndingStands, WordsEnd, Form, WordPiece, Bytes, Use, value_behind, begins_with_dash, option_word, dashes_and_word, ending_uses, ending_words}
use Rattle.rs_words.specs.Grammar.{flag, HasChoice, has_use, value_joined, nothing, use_of, positional, word_id, words_of, dashes_alone}
use Rattle.rs_words.proofs.Lookups.{built_choice, built_rules, built_shape, built_word, by_id, by_index, by_long, flagger, lacks_from, taker}
use Rattle.rs_words.proofs.Sound.{HasOwnWord, choice_known, run_end, run_fault, run_rows, run_step, word_is, word_known}
use Rattle.rs_words.proofs.Turns.{Known, again, append_nil, value_behind_turn, value_behind_walk, dashes, dashes_walk, flag_adds, flag_faults, flag_turn, flag_walk, held, value_joined_turn}
use Rattle.rs_words.proofs.Turns.{value_joined_walk, placed_turn, placed_turn_behind, placed_walk, placed_walk_behind, plain_is_no_dash, resting, rows_of_uses, settle_faults, settles, stored}
use Rattle.rs_words.proofs.Turns.{trailing, use_adds, use_faults, value_turn, value_walk, waiting}

-- the names of the options are texts without `=`, and not empty
abbrev pub HasPlainNames : Form → Type 0
HasPlainNames f = (name : Bytes) (b : Bool) → HasChoice f name b → (list_any (λ x. x == 61) name ≡ false) × ((x : ℕ) × (xs : Bytes) × (name ≡ x ∷ xs))

-- the place of the positional word is taken only where it was used
abbrev pub PlaceFits : Form → List Use → Bool → Type 0
PlaceFits f us placed = (id : Bytes) → f.word ≡ Some id → placed ≡ true → has_use id us ≡ true

pub record IsTakenFrom (f : Form) (w : Walk) (words : List Bytes) (uses : List Use) : Type 0 where
  pub allowed : dashes_are_allowed words false ≡ true
  pub passes : run_fault f w words ≡ []
  pub rows_are : run_rows f w words ≡ rows_of_uses uses

-- one word on
goes : (f : Form) (w next : Walk) (x : Bytes) (xs : List Bytes) → turn_fault (built_shape f) [] w x ≡ [] → walked (built_rules f) [] w x ≡ next
    → (run_fault f w (x ∷ xs) ≡ run_fault f next xs) × (run_rows f w (x ∷ xs) ≡ run_rows f next xs)
goes f w next x xs turn is =
    (run_step f w x xs ∙ ap (λ k. or_else k (run_fault f (walked (built_rules f) [] w x) xs)) turn ∙ ap (λ n. run_fault f n xs) is, ap (λ n. run_rows f n xs) is)

no_settle : (f : Form) (us : List Use) (o : Option Use) → Known f o → again us o ≡ false → settle_fault (built_rules f) false (held us o) ≡ []
no_settle f us o k fresh = settle_faults f us o k ∙ ap (λ b. cond b (kind.ArgumentConflict ∷ []) []) fresh

end_took : (f : Form) (us : List Use) (o : Option Use) (w : Walk) → Known f o → again us o ≡ false → w.held ≡ held us o → (run_fault f w [] ≡ []) × (run_rows f w [] ≡ rows_of_uses (stored us o))
end_took f us o w k fresh is =
    (run_end f w ∙ ap (settle_fault (built_rules f) false) is ∙ no_settle f us o k fresh, ap (λ h. (settled (built_rules f) h).rows) is ∙ ap (λ h. h.rows) (settles f us o k fresh))

either_true : (a b : Bool) → a ≡ true → (a || b) ≡ true
either_true a b e = ap (λ c. c || b) e

has_use_more : (id : Bytes) (us : List Use) (u : Use) → has_use id us ≡ true → has_use id (us ++ u ∷ []) ≡ true
has_use_more id [] u e = absurd (true≢false (sym e))
has_use_more id (v ∷ us) u e = go (bytes_eq v.id id) e (has_use_more id us u)
  where
    go : (b : Bool) → (b || has_use id us) ≡ true → (has_use id us ≡ true → has_use id (us ++ u ∷ []) ≡ true) → (b || has_use id (us ++ u ∷ [])) ≡ true
    go true h more = refl
    go false h more = more h

has_use_last : (id : Bytes) (us : List Use) (u : Use) → u.id ≡ id → has_use id (us ++ u ∷ []) ≡ true
has_use_last id [] u e = either_true (bytes_eq u.id id) false ((bytes_eq-Decides u.id id).1 e)
has_use_last id (v ∷ us) u e = go (bytes_eq v.id id) (has_use_last id us u e)
  where
    go : (b : Bool) → has_use id (us ++ u ∷ []) ≡ true → (b || has_use id (us ++ u ∷ [])) ≡ true
    go true h = refl
    go false h = h

pub plain_is_allowed : (t : Bytes) → begins_with_dash t ≡ false → dash_is_allowed false t ≡ true
plain_is_allowed t e = rw e refl

plain_is_allowed_behind : (t : Bytes) → begins_with_dash t ≡ false → dash_is_allowed true t ≡ true
plain_is_allowed_behind t e = rw e refl

-- a word that is allowed, and is not `--`
pub is_allowed_before : (w : Bytes) (ws : List Bytes) → dash_is_allowed false w ≡ true → bytes_eq w dashes ≡ false → dashes_are_allowed ws false ≡ true → dashes_are_allowed (w ∷ ws) false ≡ true
is_allowed_before w ws one isnt rest = ap₂ (λ a b. a && dashes_are_allowed ws b) one isnt ∙ rest

some_same : (a b : Bytes) → Some a ≡ Some b → a ≡ b
some_same a b e = cc

-- ---- the end

end_case : (f : Form) → HasOwnWord f → (ending : WordsEnd) (us : List Use) (o : Option Use) (placed : Bool) → Known f o → again us o ≡ false → EndingStands f ending
    → AllNew (stored us o) (ending_uses f ending) → PlaceFits f (stored us o) placed
    → IsTakenFrom f (resting us o placed) (ending_words ending) (stored us o ++ ending_uses f ending)
end_case f good nothing us o placed k fresh e new fits =
    let t = end_took f us o (resting us o placed) k fresh refl in
    record { allowed = refl; passes = t.0; rows_are = t.1 ∙ ap rows_of_uses (sym (append_nil (stored us o))) }
end_case f good dashes_alone us o placed k fresh e new fits =
    let t = end_took f us o (trailing us o placed) k fresh refl in
    let g = goes f (resting us o placed) (trailing us o placed) dashes [] refl (dashes_walk f us o placed) in
    record { allowed = refl; passes = g.0 ∙ t.0; rows_are = g.1 ∙ t.1 ∙ ap rows_of_uses (sym (append_nil (stored us o))) }
end_case f good (dashes_and_word t) us o true k fresh e new fits =
    let id_is : word_id f ≡ e.0 = ap (λ u. u.id) (word_is f e.0 t e.1) in
    absurd (true≢false (sym (fits e.0 e.1 refl) ∙ subst (λ i. has_use i (stored us o) ≡ false) id_is new.0))
end_case f good (dashes_and_word t) us o false k fresh e new fits =
    let id = e.0 in
    let u : Use = record { id = id; value = t } in
    let is : use_of f (positional t) ≡ u = word_is f id t e.1 in
    let first : arg_by_index (built_rules f) 1 ≡ Some (taker id None (Some 1)) = by_index f 1 ∙ ap (λ w. arg_by_index (built_word w) 1) e.1 in
    let g = goes f (resting us o false) (trailing us o false) dashes (t ∷ []) refl (dashes_walk f us o false) in
    let next : walked (built_rules f) [] (trailing us o false) t ≡ trailing (stored us o) (Some u) true =
    placed_walk_behind f us o id first t ∙ ap (λ h. record (trailing us None true) { held = record h { pending = Some (id, t ∷ []) } }) (settles f us o k fresh) in
    let h = goes f (trailing us o false) (trailing (stored us o) (Some u) true) t [] (placed_turn_behind f us o id first t ∙ no_settle f us o k fresh) next in
    let new_id : has_use id (stored us o) ≡ false = subst (λ i. has_use i (stored us o) ≡ false) (ap (λ x. x.id) is) new.0 in
    let last = end_took f (stored us o) (Some u) (trailing (stored us o) (Some u) true) (word_known f good id t e.1) new_id refl in
    record {
      allowed = ap (λ b. b && true) (plain_is_allowed_behind t e.2);
      passes = g.0 ∙ h.0 ∙ last.0;
      rows_are = g.1 ∙ h.1 ∙ last.1 ∙ ap (λ x. rows_of_uses (stored us o ++ x ∷ [])) (sym is);
    }

-- ---- the pieces

abbrev pub Complete : Form → List WordPiece → WordsEnd → Type 0
Complete f pieces ending = (us : List Use) (o : Option Use) (placed : Bool) → Known f o → again us o ≡ false → AllStand f pieces → AllNew (stored us o) (map (use_of f) pieces ++ ending_uses f ending)
    → PlaceFits f (stored us o) placed
    → IsTakenFrom f (resting us o placed) (flat_map words_of pieces ++ ending_words ending) (stored us o ++ (map (use_of f) pieces ++ ending_uses f ending))

-- ---- options as words

long_joined : (name v : Bytes) → list_any (λ x. x == 61) name ≡ false → (x : ℕ) (xs : Bytes) → name ≡ x ∷ xs
    → (bytes_eq (option_word (name ++ 61 ∷ v)) dashes ≡ false) × (long_of (option_word (name ++ 61 ∷ v)) ≡ Some (name, Some v))
long_joined name v lacks x xs e = (
  ap (λ n. bytes_eq (option_word (n ++ 61 ∷ v)) dashes) e,
  ap (λ n. long_of (option_word (n ++ 61 ∷ v))) e ∙ ap (λ n. Some (name_and_value (n ++ 61 ∷ v))) (sym e)
      ∙ ap (λ p. Some p) (name_and_value-at name v (lacks_from name lacks)),
)

long_alone : (name : Bytes) → list_any (λ x. x == 61) name ≡ false → (x : ℕ) (xs : Bytes) → name ≡ x ∷ xs
    → (bytes_eq (option_word name) dashes ≡ false) × (long_of (option_word name) ≡ Some (name, None))
long_alone name lacks x xs e = (
  ap (λ n. bytes_eq (option_word n) dashes) e,
  ap (λ n. long_of (option_word n)) e ∙ ap (λ n. Some (name_and_value n)) (sym e)
      ∙ ap (λ p. Some p) (name_and_value-without name (lacks_from name lacks)),
)

still_fits : (f : Form) (us : List Use) (u : Use) (placed : Bool) → PlaceFits f us placed → PlaceFits f (us ++ u ∷ []) placed
still_fits f us u placed fits = λ id w e. has_use_more id us u (fits id w e)

value_joined_took : (f : Form) → HasPlainNames f → (name v : Bytes) (ps : List WordPiece) (ending : WordsEnd) → Complete f ps ending → Complete f (value_joined name v ∷ ps) ending
value_joined_took f names name v ps ending ih us o placed k fresh stand new fits =
    let u : Use = record { id = name; value = v } in
    let w : Bytes = option_word (name ++ 61 ∷ v) in
    let ws : List Bytes = flat_map words_of ps ++ ending_words ending in
    let good = names name true stand.0 in
    let long = long_joined name v good.0 good.1.0 good.1.1 good.1.2 in
    let found : arg_by_long (built_rules f) name ≡ Some (taker name (Some name) None) = by_long f name ∙ ap (option_map built_choice) stand.0 in
    let rows : (settled (built_rules f) (held us o)).rows ≡ rows_of_uses (stored us o) = ap (λ h. h.rows) (settles f us o k fresh) in
    let unused : use_fault false (taker name (Some name) None) (v ∷ []) (settled (built_rules f) (held us o)).rows ≡ [] =
    ap (use_fault false (taker name (Some name) None) (v ∷ [])) rows ∙ use_faults u (Some name) None (stored us o) ∙ ap (λ b. cond b (kind.ArgumentConflict ∷ []) []) new.0 in
    let turn = value_joined_turn f us o placed w name v long.0 long.1 found ∙ ap₂ (λ a b. or_else (or_else a b) []) (no_settle f us o k fresh) unused in
    let next : walked (built_rules f) [] (resting us o placed) w ≡ resting (stored us o ++ u ∷ []) None placed =
    value_joined_walk f us o placed w name v long.0 long.1 found
    ∙ ap (λ l. record (resting us None placed) { held = record { rows = l; pending = None; skip = 0 } })
    (ap (used (taker name (Some name) None) (v ∷ [])) rows ∙ use_adds u (Some name) None (stored us o) new.0) in
    let g = goes f (resting us o placed) (resting (stored us o ++ u ∷ []) None placed) w ws turn next in
    let r = ih (stored us o ++ u ∷ []) None placed tt refl stand.1 new.1 (still_fits f (stored us o) u placed fits) in
    record {
      allowed = is_allowed_before w ws refl long.0 r.allowed;
      passes = g.0 ∙ r.passes;
      rows_are = g.1 ∙ r.rows_are ∙ ap rows_of_uses (append_assoc (stored us o) (u ∷ []) (map (use_of f) ps ++ ending_uses f ending));
    }

flag_took : (f : Form) → HasPlainNames f → (name : Bytes) (ps : List WordPiece) (ending : WordsEnd) → Complete f ps ending → Complete f (flag name ∷ ps) ending
flag_took f names name ps ending ih us o placed k fresh stand new fits =
    let u : Use = record { id = name; value = codes "true" } in
    let w : Bytes = option_word name in
    let ws : List Bytes = flat_map words_of ps ++ ending_words ending in
    let good = names name false stand.0 in
    let long = long_alone name good.0 good.1.0 good.1.1 good.1.2 in
    let found : arg_by_long (built_rules f) name ≡ Some (flagger name) = by_long f name ∙ ap (option_map built_choice) stand.0 in
    let rows : (settled (built_rules f) (held us o)).rows ≡ rows_of_uses (stored us o) = ap (λ h. h.rows) (settles f us o k fresh) in
    let unused : use_fault false (flagger name) [] (settled (built_rules f) (held us o)).rows ≡ [] =
    ap (use_fault false (flagger name) []) rows ∙ flag_faults name (stored us o) ∙ ap (λ b. cond b (kind.ArgumentConflict ∷ []) []) new.0 in
    let turn = flag_turn f us o placed w name long.0 long.1 found ∙ ap₂ (λ a b. or_else (or_else a b) []) (no_settle f us o k fresh) unused in
    let next : walked (built_rules f) [] (resting us o placed) w ≡ resting (stored us o ++ u ∷ []) None placed =
    flag_walk f us o placed w name long.0 long.1 found ∙ ap (λ l. record (resting us None placed) { held = record { rows = l; pending = None; skip = 0 } })
    (ap (used (flagger name) []) rows ∙ flag_adds name (stored us o) new.0) in
    let g = goes f (resting us o placed) (resting (stored us o ++ u ∷ []) None placed) w ws turn next in
    let r = ih (stored us o ++ u ∷ []) None placed tt refl stand.1 new.1 (still_fits f (stored us o) u placed fits) in
    record {
      allowed = is_allowed_before w ws refl long.0 r.allowed;
      passes = g.0 ∙ r.passes;
      rows_are = g.1 ∙ r.rows_are ∙ ap rows_of_uses (append_assoc (stored us o) (u ∷ []) (map (use_of f) ps ++ ending_uses f ending));
    }

value_behind_took : (f : Form) → HasPlainNames f → (name v : Bytes) (ps : List WordPiece) (ending : WordsEnd) → Complete f ps ending → Complete f (value_behind name v ∷ ps) ending
value_behind_took f names name v ps ending ih us o placed k fresh stand new fits =
    let u : Use = record { id = name; value = v } in
    let w : Bytes = option_word name in
    let ws : List Bytes = flat_map words_of ps ++ ending_words ending in
    let has = stand.0.0 in
    let good = names name true has in
    let long = long_alone name good.0 good.1.0 good.1.1 good.1.2 in
    let found : arg_by_long (built_rules f) name ≡ Some (taker name (Some name) None) = by_long f name ∙ ap (option_map built_choice) has in
    let known : arg_by_id (built_rules f) name ≡ Some (taker name (Some name) None) = by_id f name (record { name = name; is_valued = true }) has in
    let turn = value_behind_turn f us o placed w name long.0 long.1 found ∙ ap (λ a. or_else a []) (no_settle f us o k fresh) in
    let next : walked (built_rules f) [] (resting us o placed) w ≡ waiting (stored us o) name placed =
    value_behind_walk f us o placed w name long.0 long.1 found ∙ ap (λ h. record (waiting us name placed) { held = record h { pending = Some (name, []) } }) (settles f us o k fresh) in
    let g = goes f (resting us o placed) (waiting (stored us o) name placed) w (v ∷ ws) turn next in
    let h = goes f (waiting (stored us o) name placed) (resting (stored us o) (Some u) placed) v ws (value_turn f (stored us o) name placed known v stand.0.1)
    (value_walk f (stored us o) name placed known v stand.0.1) in
    let r = ih (stored us o) (Some u) placed (choice_known f name v has) new.0 stand.1 new.1 (still_fits f (stored us o) u placed fits) in
    record {
      allowed = is_allowed_before w (v ∷ ws) refl long.0 (is_allowed_before v ws (plain_is_allowed v stand.0.1) (plain_is_no_dash v stand.0.1).0 r.allowed);
      passes = g.0 ∙ h.0 ∙ r.passes;
      rows_are = g.1 ∙ h.1 ∙ r.rows_are ∙ ap rows_of_uses (append_assoc (stored us o) (u ∷ []) (map (use_of f) ps ++ ending_uses f ending));
    }

word_took : (f : Form) → HasOwnWord f → (t : Bytes) (ps : List WordPiece) (ending : WordsEnd) → Complete f ps ending → Complete f (positional t ∷ ps) ending
word_took f good t ps ending ih us o true k fresh stand new fits =
    let id_is : word_id f ≡ stand.0.0 = ap (λ u. u.id) (word_is f stand.0.0 t stand.0.1) in
    absurd (true≢false (sym (fits stand.0.0 stand.0.1 refl) ∙ subst (λ i. has_use i (stored us o) ≡ false) id_is new.0))
word_took f good t ps ending ih us o false k fresh stand new fits =
    let id = stand.0.0 in
    let fw = stand.0.1 in
    let plain = stand.0.2 in
    let u : Use = record { id = id; value = t } in
    let is : use_of f (positional t) ≡ u = word_is f id t fw in
    let l : List Use = map (use_of f) ps ++ ending_uses f ending in
    let ws : List Bytes = flat_map words_of ps ++ ending_words ending in
    let first : arg_by_index (built_rules f) 1 ≡ Some (taker id None (Some 1)) = by_index f 1 ∙ ap (λ w. arg_by_index (built_word w) 1) fw in
    let next : walked (built_rules f) [] (resting us o false) t ≡ resting (stored us o) (Some u) true =
    placed_walk f us o id first t plain ∙ ap (λ h. record (resting us None true) { held = record h { pending = Some (id, t ∷ []) } }) (settles f us o k fresh) in
    let g = goes f (resting us o false) (resting (stored us o) (Some u) true) t ws (placed_turn f us o id first t plain ∙ no_settle f us o k fresh) next in
    let named : AllNew (stored us o) (u ∷ l) = subst (λ x. AllNew (stored us o) (x ∷ l)) is new in
    let r = ih (stored us o) (Some u) true (word_known f good id t fw) named.0 stand.1 named.1 (λ i w e. has_use_last i (stored us o) u (some_same id i (sym fw ∙ w))) in
    record {
      allowed = is_allowed_before t ws (plain_is_allowed t plain) (plain_is_no_dash t plain).0 r.allowed;
      passes = g.0 ∙ r.passes;
      rows_are = g.1 ∙ r.rows_are ∙ ap rows_of_uses (append_assoc (stored us o) (u ∷ []) l) ∙ ap (λ x. rows_of_uses (stored us o ++ x ∷ l)) (sym is);
    }

-- what the grammar spells behind a command's name is taken
pub complete : (f : Form) → HasOwnWord f → HasPlainNames f → (pieces : List WordPiece) (ending : WordsEnd) → EndingStands f ending → Complete f pieces ending
complete f good names [] ending end = λ us o placed k fresh stand new fits. end_case f good ending us o placed k fresh end new fits
complete f good names (value_joined name v ∷ ps) ending end = value_joined_took f names name v ps ending (complete f good names ps ending end)
complete f good names (flag name ∷ ps) ending end = flag_took f names name ps ending (complete f good names ps ending end)
complete f good names (value_behind name v ∷ ps) ending end = value_behind_took f names name v ps ending (complete f good names ps ending end)
complete f good names (positional t ∷ ps) ending end = word_took f good t ps ending (complete f good names ps ending end)
