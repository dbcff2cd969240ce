-- What clap takes is spelt by the grammar.
use Rattle.std.proofs.Common.{◌≡◌, ℕ, Bool, true, false, List, [], ◌∷◌, ◌++◌, map, Option, Some, None, option_map, cond, refl, sym, ap, ap₂, subst, ◌∙◌, true≢false, codes, ◌⊎◌, inl, inr, ⊎_elim}
use Rattle.std.specs.Prelude.{find, flat_map, fold}
use Rattle.std.specs.Str.{bytes_eq}
use Rattle.std.proofs.lemmas.List.{append_assoc}
use Rattle.std.proofs.lemmas.Bool.Decides.{eqb_tells}
use Rattle.clap.specs.Lexer.{long_of, name_and_value}
use Rattle.clap.specs.Kinds.{Kinds, or_else}
use Rattle.clap.specs.Walk.{Walk, arg_by_id, arg_by_index, arg_by_long, settled, used, walked}
use Rattle.clap.specs.Faults.{settle_fault, turn_fault, use_fault, walk_fault}
use Rattle.clap.specs.Words.{Row}
use Rattle.clap.proofs.CutLemmas.{Lacks}
use Rattle.clap.proofs.LexerLemmas.{name_and_value-at, name_and_value-without}
use Rattle.clap.proofs.SimpleLemmas.{is_false}
use Rattle.clap.proofs.WalkLemmas.{both}
use Rattle.clap.specs.declared.error.kind.ErrorKind.{ErrorKind}
use Rattle.clap.specs.declared.error.kind.ErrorKind.TheVariants as kind
use Rattle.rs_words.specs.Clap.{dashes_are_allowed, dash_is_allowed}
use Rattle.rs_words.specs.Grammar.{AllNew, AllStand, CommandOption, EndingStands, WordsEnd, Form, WordPiece, PieceStands, Bytes, Use, value_behind, begins_with_dash, option_word, dashes_and_word}
use Rattle.rs_words.specs.Grammar.{ending_uses, ending_words, flag, HasChoice, has_use, value_joined, nothing, use_of, positional, words_of, dashes_alone}
use Rattle.rs_words.proofs.Lookups.{Cut, built_choice, built_rules, built_shape, built_word, by_id, by_index, by_long, by_word, cut, flagger, found_passes, same_text, second_place, taker}
use Rattle.rs_words.proofs.Turns.{Known, again, append_nil, value_behind_turn, value_behind_walk, at_place, dashes, dashes_walk, doomed, doomed_turn, doomed_walk, flag_adds, flag_faults, flag_turn}
use Rattle.rs_words.proofs.Turns.{flag_walk, flag_with_value, held, value_joined_turn, value_joined_walk, never_settles, no_option_there, placed_turn, placed_turn_behind, placed_walk}
use Rattle.rs_words.proofs.Turns.{placed_walk_behind, plain_is_no_dash, resting, rows_of_uses, settle_faults, settles, stored, stray_behind, stray_turn, trailing, unknown_turn, use_adds, use_faults}
use Rattle.rs_words.proofs.Turns.{value_walk, waiting}

-- ---- kinds

pub no_kinds : (a b : Kinds) → or_else a b ≡ [] → (a ≡ []) × (b ≡ [])
no_kinds [] b e = (refl, e)
no_kinds (k ∷ ks) b e = cc

pub clash : (a : Kinds) (k : ErrorKind) (ks : Kinds) → a ≡ k ∷ ks → a ≡ [] → ⊥
clash a k ks e f = cc

pub regroup : (a b c : Kinds) → or_else (or_else a b) c ≡ or_else a (or_else b c)
regroup [] b c = refl
regroup (k ∷ ks) b c = refl

-- ---- a level from a place in its walk

abbrev pub ends : Form → Walk → List Bytes → Walk
ends f w words = fold (walked (built_rules f) []) w words

abbrev pub run_fault : Form → Walk → List Bytes → Kinds
run_fault f w words = or_else (walk_fault (built_shape f) [] w words) (settle_fault (built_rules f) false (ends f w words).held)

abbrev pub run_rows : Form → Walk → List Bytes → List Row
run_rows f w words = (settled (built_rules f) (ends f w words).held).rows

pub run_step : (f : Form) (w : Walk) (x : Bytes) (xs : List Bytes) → run_fault f w (x ∷ xs) ≡ or_else (turn_fault (built_shape f) [] w x) (run_fault f (walked (built_rules f) [] w x) xs)
unfolding walk_fault
run_step f w x xs = regroup (turn_fault (built_shape f) [] w x) (walk_fault (built_shape f) [] (walked (built_rules f) [] w x) xs) (settle_fault (built_rules f) false (ends f w (x ∷ xs)).held)

pub run_end : (f : Form) (w : Walk) → run_fault f w [] ≡ settle_fault (built_rules f) false w.held
unfolding walk_fault
run_end f w = refl

-- a run that passes, one word on
pub on : (f : Form) (w next : Walk) (x : Bytes) (xs : List Bytes) → run_fault f w (x ∷ xs) ≡ [] → walked (built_rules f) [] w x ≡ next
    → (turn_fault (built_shape f) [] w x ≡ []) × (run_fault f next xs ≡ [])
on f w next x xs e is =
    let parts = no_kinds (turn_fault (built_shape f) [] w x) (run_fault f (walked (built_rules f) [] w x) xs) (sym (run_step f w x xs) ∙ e) in
    (parts.0, subst (λ n. run_fault f n xs ≡ []) is parts.1)

-- the form's positional word has an id of its own
abbrev pub HasOwnWord : Form → Type 0
HasOwnWord f = (id : Bytes) → f.word ≡ Some id → find (λ k. bytes_eq k.name id) f.choices ≡ None

-- ---- what the words from a place on spell

pub record Rest (f : Form) (us : List Use) (o : Option Use) (words : List Bytes) (rows : List Row) : Type 0 where
  pub pieces : List WordPiece
  pub ending : WordsEnd
  pub text : words ≡ flat_map words_of pieces ++ ending_words ending
  pub stand : AllStand f pieces
  pub end : EndingStands f ending
  pub fresh : again us o ≡ false
  pub rows_are : rows ≡ rows_of_uses (stored us o ++ (map (use_of f) pieces ++ ending_uses f ending))
  pub once : AllNew (stored us o) (map (use_of f) pieces ++ ending_uses f ending)

abbrev pub Sound : Form → List Bytes → Type 0
Sound f words = (us : List Use) (o : Option Use) (placed : Bool) → Known f o → dashes_are_allowed words false ≡ true → run_fault f (resting us o placed) words ≡ []
    → Rest f us o words (run_rows f (resting us o placed) words)

-- one piece more, whose use waits to be stored
later : (f : Form) (us : List Use) (o : Option Use) (p : WordPiece) (u : Use) (rest : List Bytes) (rows : List Row) → use_of f p ≡ u → PieceStands f p → again us o ≡ false
    → Rest f (stored us o) (Some u) rest rows → Rest f us o (words_of p ++ rest) rows
later f us o p u rest rows is stands fresh r = record {
  pieces = p ∷ r.pieces;
  ending = r.ending;
  text = ap (λ l. words_of p ++ l) r.text ∙ sym (append_assoc (words_of p) (flat_map words_of r.pieces) (ending_words r.ending));
  stand = (stands, r.stand);
  end = r.end;
  fresh = fresh;
  rows_are = r.rows_are ∙ ap rows_of_uses (append_assoc (stored us o) (u ∷ []) (map (use_of f) r.pieces ++ ending_uses f r.ending))
      ∙ ap (λ x. rows_of_uses (stored us o ++ x ∷ (map (use_of f) r.pieces ++ ending_uses f r.ending))) (sym is);
  once = subst (λ x. AllNew (stored us o) (x ∷ (map (use_of f) r.pieces ++ ending_uses f r.ending))) (sym is) (r.fresh, r.once);
}

-- one piece more, whose use is stored
now : (f : Form) (us : List Use) (o : Option Use) (p : WordPiece) (u : Use) (rest : List Bytes) (rows : List Row) → use_of f p ≡ u → PieceStands f p → again us o ≡ false
    → has_use u.id (stored us o) ≡ false
    → Rest f (stored us o ++ u ∷ []) None rest rows → Rest f us o (words_of p ++ rest) rows
now f us o p u rest rows is stands fresh new r = record {
  pieces = p ∷ r.pieces;
  ending = r.ending;
  text = ap (λ l. words_of p ++ l) r.text ∙ sym (append_assoc (words_of p) (flat_map words_of r.pieces) (ending_words r.ending));
  stand = (stands, r.stand);
  end = r.end;
  fresh = fresh;
  rows_are = r.rows_are ∙ ap rows_of_uses (append_assoc (stored us o) (u ∷ []) (map (use_of f) r.pieces ++ ending_uses f r.ending))
      ∙ ap (λ x. rows_of_uses (stored us o ++ x ∷ (map (use_of f) r.pieces ++ ending_uses f r.ending))) (sym is);
  once = subst (λ x. AllNew (stored us o) (x ∷ (map (use_of f) r.pieces ++ ending_uses f r.ending))) (sym is) (new, r.once);
}

-- where a test passes, nothing stood against it
was_false : (b : Bool) (k : Kinds) → cond b (kind.ArgumentConflict ∷ k) [] ≡ [] → b ≡ false
was_false true k e = cc
was_false false k e = refl

fresh_from : (f : Form) (us : List Use) (o : Option Use) → Known f o → settle_fault (built_rules f) false (held us o) ≡ [] → again us o ≡ false
fresh_from f us o k e = was_false (again us o) [] (sym (settle_faults f us o k) ∙ e)

-- ---- what a word looks like

pub view : (w : Bytes) → dash_is_allowed false w ≡ true → (w ≡ dashes) ⊎ (((x : ℕ) × (xs : Bytes) × (w ≡ option_word (x ∷ xs))) ⊎ (begins_with_dash w ≡ false))
view [] e = inr (inr refl)
view (x ∷ xs) e = ⊎_elim (λ t. subst (λ y. (y ∷ xs ≡ dashes) ⊎ (((z : ℕ) × (zs : Bytes) × (y ∷ xs ≡ option_word (z ∷ zs))) ⊎ (begins_with_dash (y ∷ xs) ≡ false))) (sym t.1)
    (second xs (subst (λ y. dash_is_allowed false (y ∷ xs) ≡ true) t.1 e)))
    (λ t. inr (inr t.0)) (eqb_tells x 45)
  where
    third : (ys : Bytes) → (45 ∷ 45 ∷ ys ≡ dashes) ⊎ (((z : ℕ) × (zs : Bytes) × (45 ∷ 45 ∷ ys ≡ option_word (z ∷ zs))) ⊎ (begins_with_dash (45 ∷ 45 ∷ ys) ≡ false))
    third [] = inl refl
    third (z ∷ zs) = inr (inl (z, zs, refl))

    second : (l : Bytes) → dash_is_allowed false (45 ∷ l) ≡ true → (45 ∷ l ≡ dashes) ⊎ (((z : ℕ) × (zs : Bytes) × (45 ∷ l ≡ option_word (z ∷ zs))) ⊎ (begins_with_dash (45 ∷ l) ≡ false))
    second [] h = absurd (true≢false (sym h))
    second (y ∷ ys) h = ⊎_elim (λ t. subst (λ y. (45 ∷ y ∷ ys ≡ dashes) ⊎ (((z : ℕ) × (zs : Bytes) × (45 ∷ y ∷ ys ≡ option_word (z ∷ zs))) ⊎ (begins_with_dash (45 ∷ y ∷ ys) ≡ false))) (sym t.1)
        (third ys))
        (λ t. absurd (true≢false (sym h ∙ t.0))) (eqb_tells y 45)

-- ---- the end

at_end : (f : Form) (us : List Use) (o : Option Use) (k : Known f o) (w : Walk) → w.held ≡ held us o → run_fault f w [] ≡ [] → Rest f us o [] (run_rows f w [])
at_end f us o k w is e =
    let settle : settle_fault (built_rules f) false (held us o) ≡ [] = subst (λ h. settle_fault (built_rules f) false h ≡ []) is (sym (run_end f w) ∙ e) in
    let fresh = fresh_from f us o k settle in
    record {
      pieces = [];
      ending = nothing;
      text = refl;
      stand = tt;
      end = tt;
      fresh = fresh;
      rows_are = ap (λ h. (settled (built_rules f) h).rows) is ∙ ap (λ h. h.rows) (settles f us o k fresh) ∙ ap rows_of_uses (sym (append_nil (stored us o)));
      once = tt;
    }

pub word_is : (f : Form) (id t : Bytes) → f.word ≡ Some id → use_of f (positional t) ≡ record { id = id; value = t }
word_is f id t e = ap (λ w. use_of (record f { word = w }) (positional t)) e

pub word_known : (f : Form) → HasOwnWord f → (id t : Bytes) → f.word ≡ Some id → Known f (Some (record { id = id; value = t }))
word_known f good id t fw = (None, Some 1, by_word f id fw (good id fw))

-- the walk behind a positional word
abbrev taken : Walk → List Use → Bytes → Bytes → Walk
taken w us id t = record w { held = held us (Some (record { id = id; value = t })) }

-- a positional word behind `--`
behind : (f : Form) → HasOwnWord f → (us : List Use) (o : Option Use) → Known f o → (id t : Bytes) → f.word ≡ Some id → begins_with_dash t ≡ false → (more : List Bytes)
    → run_fault f (trailing us o false) (t ∷ more) ≡ []
    → Rest f us o (dashes ∷ t ∷ more) (run_rows f (trailing us o false) (t ∷ more))
unfolding at_end
behind f good us o k id t fw plain more e = go more e
  where
    u : Use
    u = record { id = id; value = t }

    first : arg_by_index (built_rules f) 1 ≡ Some (taker id None (Some 1))
    first = by_index f 1 ∙ ap (λ w. arg_by_index (built_word w) 1) fw

    settle : (l : List Bytes) → run_fault f (trailing us o false) (t ∷ l) ≡ [] → again us o ≡ false
    settle l h = fresh_from f us o k (sym (placed_turn_behind f us o id first t) ∙ (on f (trailing us o false) (walked (built_rules f) [] (trailing us o false) t) t l h refl).0)

    next : again us o ≡ false → walked (built_rules f) [] (trailing us o false) t ≡ trailing (stored us o) (Some u) true
    next fresh = placed_walk_behind f us o id first t ∙ ap (λ h. record (trailing us None true) { held = record h { pending = Some (id, t ∷ []) } }) (settles f us o k fresh)

    go : (l : List Bytes) → run_fault f (trailing us o false) (t ∷ l) ≡ [] → Rest f us o (dashes ∷ t ∷ l) (run_rows f (trailing us o false) (t ∷ l))
    go [] h =
        let fresh = settle [] h in
        let passed = (on f (trailing us o false) (trailing (stored us o) (Some u) true) t [] h (next fresh)).1 in
        let r = at_end f (stored us o) (Some u) (word_known f good id t fw) (trailing (stored us o) (Some u) true) refl passed in
        record {
          pieces = [];
          ending = dashes_and_word t;
          text = refl;
          stand = tt;
          end = (id, fw, plain);
          fresh = fresh;
          rows_are = ap (λ w. run_rows f w []) (next fresh) ∙ r.rows_are ∙ ap rows_of_uses (append_nil (stored us o ++ u ∷ []))
              ∙ ap (λ x. rows_of_uses (stored us o ++ x ∷ [])) (sym (word_is f id t fw));
          once = subst (λ x. AllNew (stored us o) (x ∷ [])) (sym (word_is f id t fw)) (r.fresh, tt);
        }
    go (t2 ∷ l) h =
        let fresh = settle (t2 ∷ l) h in
        let passed = (on f (trailing us o false) (trailing (stored us o) (Some u) true) t (t2 ∷ l) h (next fresh)).1 in
        let turn = (on f (trailing (stored us o) (Some u) true) (walked (built_rules f) [] (trailing (stored us o) (Some u) true) t2) t2 l passed refl).0 in
        let stray = stray_behind f (stored us o) (Some u) true t2 (by_index f 2 ∙ second_place f.word) in cc

-- behind `--`
dashes_case : (f : Form) → HasOwnWord f → (rest : List Bytes) → Sound f (dashes ∷ rest)
dashes_case f good [] us o placed k allowed e =
    let next = on f (resting us o placed) (trailing us o placed) dashes [] e (dashes_walk f us o placed) in
    let r = at_end f us o k (trailing us o placed) refl next.1 in
    let rows : run_rows f (resting us o placed) (dashes ∷ []) ≡ run_rows f (trailing us o placed) [] = ap (λ w. run_rows f w []) (dashes_walk f us o placed) in
    record {
      pieces = [];
      ending = dashes_alone;
      text = refl;
      stand = tt;
      end = tt;
      fresh = r.fresh;
      rows_are = rows ∙ ap (λ h. h.rows) (settles f us o k r.fresh) ∙ ap rows_of_uses (sym (append_nil (stored us o)));
      once = tt;
    }
dashes_case f good (t ∷ rest) us o placed k allowed e =
    let next = on f (resting us o placed) (trailing us o placed) dashes (t ∷ rest) e (dashes_walk f us o placed) in
    let rows : run_rows f (resting us o placed) (dashes ∷ t ∷ rest) ≡ run_rows f (trailing us o placed) (t ∷ rest) = ap (λ w. run_rows f w (t ∷ rest)) (dashes_walk f us o placed) in
    let plain : begins_with_dash t ≡ false = is_false (begins_with_dash t) (both (dash_is_allowed true t) (dashes_are_allowed rest true) allowed).0 in
    ⊎_elim (λ none. let passes = (on f (trailing us o placed) (walked (built_rules f) [] (trailing us o placed) t) t rest next.1 refl).0 in
    let stray = stray_behind f us o placed t none in cc)
    (λ some. subst (Rest f us o (dashes ∷ t ∷ rest)) (sym (rows ∙ ap (λ b. run_rows f (trailing us o b) (t ∷ rest)) some.2))
    (behind f good us o k some.0 t some.1 plain rest (subst (λ b. run_fault f (trailing us o b) (t ∷ rest) ≡ []) some.2 next.1))) (at_place f placed)

-- a word that is no option
plain_here : (f : Form) → HasOwnWord f → (w : Bytes) (rest : List Bytes) → begins_with_dash w ≡ false → Sound f rest → (us : List Use) (o : Option Use) → Known f o → (id : Bytes) → f.word ≡ Some id
    → dashes_are_allowed rest false ≡ true → run_fault f (resting us o false) (w ∷ rest) ≡ [] → Rest f us o (w ∷ rest) (run_rows f (resting us o false) (w ∷ rest))
plain_here f good w rest plain ih us o k id fw allowed e =
    let u : Use = record { id = id; value = w } in
    let first : arg_by_index (built_rules f) 1 ≡ Some (taker id None (Some 1)) = by_index f 1 ∙ ap (λ x. arg_by_index (built_word x) 1) fw in
    let fresh : again us o ≡ false = fresh_from f us o k (sym (placed_turn f us o id first w plain) ∙ (on f (resting us o false) (walked (built_rules f) [] (resting us o false) w) w rest e refl).0) in
    let next : walked (built_rules f) [] (resting us o false) w ≡ resting (stored us o) (Some u) true =
    placed_walk f us o id first w plain ∙ ap (λ h. record (resting us None true) { held = record h { pending = Some (id, w ∷ []) } }) (settles f us o k fresh) in
    let r = ih (stored us o) (Some u) true (word_known f good id w fw) allowed (on f (resting us o false) (resting (stored us o) (Some u) true) w rest e next).1 in
    subst (Rest f us o (w ∷ rest)) (sym (ap (λ x. run_rows f x rest) next))
    (later f us o (positional w) u rest (run_rows f (resting (stored us o) (Some u) true) rest) (word_is f id w fw) (id, fw, plain) fresh r)

plain_case : (f : Form) → HasOwnWord f → (w : Bytes) (rest : List Bytes) → begins_with_dash w ≡ false → Sound f rest → Sound f (w ∷ rest)
plain_case f good w rest plain ih us o placed k allowed e =
    let rest_is_allowed : dashes_are_allowed rest false ≡ true =
    subst (λ b. dashes_are_allowed rest b ≡ true) (plain_is_no_dash w plain).0 (both (dash_is_allowed false w) (dashes_are_allowed rest (bytes_eq w dashes)) allowed).1 in
    ⊎_elim (λ none. let passes = (on f (resting us o placed) (walked (built_rules f) [] (resting us o placed) w) w rest e refl).0 in let stray = stray_turn f us o placed w plain none in cc)
    (λ some. subst (λ b. Rest f us o (w ∷ rest) (run_rows f (resting us o b) (w ∷ rest))) (sym some.2)
    (plain_here f good w rest plain ih us o k some.0 some.1 rest_is_allowed (subst (λ b. run_fault f (resting us o b) (w ∷ rest) ≡ []) some.2 e))) (at_place f placed)

-- ---- options

pub choice_known : (f : Form) (name v : Bytes) → HasChoice f name true → Known f (Some (record { id = name; value = v }))
choice_known f name v h = (Some name, None, by_id f name (record { name = name; is_valued = true }) h)

-- `--name=value`
value_joined_case : (f : Form) (x : ℕ) (xs name v : Bytes) (rest : List Bytes) → x ∷ xs ≡ name ++ 61 ∷ v → HasChoice f name true → long_of (option_word (x ∷ xs)) ≡ Some (name, Some v) → Sound f rest
    → Sound f (option_word (x ∷ xs) ∷ rest)
value_joined_case f x xs name v rest parts has is ih us o placed k allowed e =
    let u : Use = record { id = name; value = v } in
    let w : Bytes = option_word (x ∷ xs) in
    let found : arg_by_long (built_rules f) name ≡ Some (taker name (Some name) None) = by_long f name ∙ ap (option_map built_choice) has in
    let turn = (on f (resting us o placed) (walked (built_rules f) [] (resting us o placed) w) w rest e refl).0 in
    let step = no_kinds (or_else (settle_fault (built_rules f) false (held us o)) (use_fault false (taker name (Some name) None) (v ∷ []) (settled (built_rules f) (held us o)).rows)) []
    (sym (value_joined_turn f us o placed w name v refl is found) ∙ turn) in
    let two = no_kinds (settle_fault (built_rules f) false (held us o)) (use_fault false (taker name (Some name) None) (v ∷ []) (settled (built_rules f) (held us o)).rows) step.0 in
    let fresh : again us o ≡ false = fresh_from f us o k two.0 in
    let rows : (settled (built_rules f) (held us o)).rows ≡ rows_of_uses (stored us o) = ap (λ h. h.rows) (settles f us o k fresh) in
    let new : has_use name (stored us o) ≡ false = was_false (has_use name (stored us o)) []
    (sym (ap (use_fault false (taker name (Some name) None) (v ∷ [])) rows ∙ use_faults u (Some name) None (stored us o)) ∙ two.1) in
    let next : walked (built_rules f) [] (resting us o placed) w ≡ resting (stored us o ++ u ∷ []) None placed =
    value_joined_walk f us o placed w name v refl is found ∙ ap (λ l. record (resting us None placed) { held = record { rows = l; pending = None; skip = 0 } })
    (ap (used (taker name (Some name) None) (v ∷ [])) rows ∙ use_adds u (Some name) None (stored us o) new) in
    let r = ih (stored us o ++ u ∷ []) None placed tt allowed (on f (resting us o placed) (resting (stored us o ++ u ∷ []) None placed) w rest e next).1 in
    let made : Rest f us o (words_of (value_joined name v) ++ rest) (run_rows f (resting (stored us o ++ u ∷ []) None placed) rest) =
    now f us o (value_joined name v) u rest (run_rows f (resting (stored us o ++ u ∷ []) None placed) rest) refl has fresh new r in
    subst (λ t. Rest f us o (option_word t ∷ rest) (run_rows f (resting us o placed) (w ∷ rest))) (sym parts)
    (subst (Rest f us o (words_of (value_joined name v) ++ rest)) (sym (ap (λ y. run_rows f y rest) next)) made)

-- a flag
flag_case : (f : Form) (x : ℕ) (xs : Bytes) (rest : List Bytes) → HasChoice f (x ∷ xs) false → long_of (option_word (x ∷ xs)) ≡ Some (x ∷ xs, None) → Sound f rest
    → Sound f (option_word (x ∷ xs) ∷ rest)
flag_case f x xs rest has is ih us o placed k allowed e =
    let name : Bytes = x ∷ xs in
    let u : Use = record { id = name; value = codes "true" } in
    let w : Bytes = option_word (x ∷ xs) in
    let found : arg_by_long (built_rules f) name ≡ Some (flagger name) = by_long f name ∙ ap (option_map built_choice) has in
    let turn = (on f (resting us o placed) (walked (built_rules f) [] (resting us o placed) w) w rest e refl).0 in
    let step = no_kinds (or_else (settle_fault (built_rules f) false (held us o)) (use_fault false (flagger name) [] (settled (built_rules f) (held us o)).rows)) []
    (sym (flag_turn f us o placed w name refl is found) ∙ turn) in
    let two = no_kinds (settle_fault (built_rules f) false (held us o)) (use_fault false (flagger name) [] (settled (built_rules f) (held us o)).rows) step.0 in
    let fresh : again us o ≡ false = fresh_from f us o k two.0 in
    let rows : (settled (built_rules f) (held us o)).rows ≡ rows_of_uses (stored us o) = ap (λ h. h.rows) (settles f us o k fresh) in
    let new : has_use name (stored us o) ≡ false = was_false (has_use name (stored us o)) [] (sym (ap (use_fault false (flagger name) []) rows ∙ flag_faults name (stored us o)) ∙ two.1) in
    let next : walked (built_rules f) [] (resting us o placed) w ≡ resting (stored us o ++ u ∷ []) None placed =
    flag_walk f us o placed w name refl is found ∙ ap (λ l. record (resting us None placed) { held = record { rows = l; pending = None; skip = 0 } })
    (ap (used (flagger name) []) rows ∙ flag_adds name (stored us o) new) in
    let r = ih (stored us o ++ u ∷ []) None placed tt allowed (on f (resting us o placed) (resting (stored us o ++ u ∷ []) None placed) w rest e next).1 in
    subst (Rest f us o (w ∷ rest)) (sym (ap (λ y. run_rows f y rest) next)) (now f us o (flag name) u rest (run_rows f (resting (stored us o ++ u ∷ []) None placed) rest) refl has fresh new r)

-- `--name` and its value in the next word
abbrev pub Behind : Form → List Bytes → Type 0
Behind f [] = Unit {0}
Behind f (v ∷ rest) = Sound f rest

never_ends : (f : Form) (us : List Use) (name : Bytes) (placed : Bool) (known : arg_by_id (built_rules f) name ≡ Some (taker name (Some name) None)) (l : List Bytes)
    → run_fault f (doomed f us name placed known) l ≡ [] → ⊥
never_ends f us name placed known [] e =
    let end = sym (run_end f (doomed f us name placed known)) ∙ e in
    let never = never_settles f us name (Some name) None known in cc
never_ends f us name placed known (t ∷ l) e = doomed_turn f us name placed known t (on f (doomed f us name placed known) (walked (built_rules f) [] (doomed f us name placed known) t) t l e refl).0

value_behind_case : (f : Form) (x : ℕ) (xs : Bytes) (rest : List Bytes) → HasChoice f (x ∷ xs) true → long_of (option_word (x ∷ xs)) ≡ Some (x ∷ xs, None) → Behind f rest
    → Sound f (option_word (x ∷ xs) ∷ rest)
value_behind_case f x xs rest has is ih us o placed k allowed e = go rest ih allowed e
  where
    name : Bytes
    name = x ∷ xs

    w : Bytes
    w = option_word (x ∷ xs)

    found : arg_by_long (built_rules f) name ≡ Some (taker name (Some name) None)
    found = by_long f name ∙ ap (option_map built_choice) has

    known : arg_by_id (built_rules f) name ≡ Some (taker name (Some name) None)
    known = by_id f name (record { name = name; is_valued = true }) has

    fresh_of : (l : List Bytes) → run_fault f (resting us o placed) (w ∷ l) ≡ [] → again us o ≡ false
    fresh_of l h = fresh_from f us o k (no_kinds (settle_fault (built_rules f) false (held us o)) []
        (sym (value_behind_turn f us o placed w name refl is found) ∙ (on f (resting us o placed) (walked (built_rules f) [] (resting us o placed) w) w l h refl).0)).0

    next_of : again us o ≡ false → walked (built_rules f) [] (resting us o placed) w ≡ waiting (stored us o) name placed
    next_of fresh = value_behind_walk f us o placed w name refl is found ∙ ap (λ h. record (waiting us name placed) { held = record h { pending = Some (name, []) } }) (settles f us o k fresh)

    go : (l : List Bytes) → Behind f l → dashes_are_allowed (w ∷ l) false ≡ true → run_fault f (resting us o placed) (w ∷ l) ≡ [] → Rest f us o (w ∷ l) (run_rows f (resting us o placed) (w ∷ l))
    go [] b wl h =
        let fresh = fresh_of [] h in
        let end = sym (run_end f (waiting (stored us o) name placed)) ∙ (on f (resting us o placed) (waiting (stored us o) name placed) w [] h (next_of fresh)).1 in
        let never = never_settles f (stored us o) name (Some name) None known in cc
    go (v ∷ l) b wl h =
        let parts = both (dash_is_allowed false v) (dashes_are_allowed l (bytes_eq v dashes)) wl in
        let fresh = fresh_of (v ∷ l) h in
        let run = (on f (resting us o placed) (waiting (stored us o) name placed) w (v ∷ l) h (next_of fresh)).1 in
        let turn = (on f (waiting (stored us o) name placed) (walked (built_rules f) [] (waiting (stored us o) name placed) v) v l run refl).0 in
        let rows : run_rows f (resting us o placed) (w ∷ v ∷ l) ≡ run_rows f (waiting (stored us o) name placed) (v ∷ l) = ap (λ y. run_rows f y (v ∷ l)) (next_of fresh) in
        ⊎_elim (λ t. absurd (never_ends f (stored us o) name placed known l (on f (waiting (stored us o) name placed) (doomed f (stored us o) name placed known) dashes l
        (subst (λ y. run_fault f (waiting (stored us o) name placed) (y ∷ l) ≡ []) t run) (doomed_walk f (stored us o) name placed known)).1))
        (λ s. ⊎_elim (λ t. absurd (no_option_there f (stored us o) name placed known (option_word (t.0 ∷ t.1)) (name_and_value (t.0 ∷ t.1)).0 (name_and_value (t.0 ∷ t.1)).1 refl refl
        (subst (λ y. turn_fault (built_shape f) [] (waiting (stored us o) name placed) y ≡ []) t.2 turn)))
        (λ plain.
        let u : Use = record { id = name; value = v } in
        let next = value_walk f (stored us o) name placed known v plain in
        let later_are_allowed : dashes_are_allowed l false ≡ true = subst (λ y. dashes_are_allowed l y ≡ true) (plain_is_no_dash v plain).0 parts.1 in
        let r = b (stored us o) (Some u) placed (choice_known f name v has) later_are_allowed (on f (waiting (stored us o) name placed) (resting (stored us o) (Some u) placed) v l run next).1 in
        subst (Rest f us o (w ∷ v ∷ l)) (sym (rows ∙ ap (λ y. run_rows f y l) next))
        (later f us o (value_behind name v) u l (run_rows f (resting (stored us o) (Some u) placed) l) refl (has, plain) fresh r)) s)
        (view v parts.0)

long_case : (f : Form) → (x : ℕ) (xs : Bytes) (rest : List Bytes) → Sound f rest → Behind f rest → Sound f (option_word (x ∷ xs) ∷ rest)
long_case f x xs rest ih ih2 us o placed k allowed e = ⊎_elim without with_value (cut (x ∷ xs))
  where
    w : Bytes
    w = option_word (x ∷ xs)

    turn : turn_fault (built_shape f) [] (resting us o placed) w ≡ []
    turn = (on f (resting us o placed) (walked (built_rules f) [] (resting us o placed) w) w rest e refl).0

    no_choice : (name : Bytes) (v : Option Bytes) → long_of w ≡ Some (name, v) → find (λ c. bytes_eq c.name name) f.choices ≡ None → ⊥
    no_choice name v is none = let fault = unknown_turn f us o placed w name v refl is (by_long f name ∙ ap (option_map built_choice) none) in clash
        (turn_fault (built_shape f) [] (resting us o placed) w) kind.UnknownArgument [] fault turn

    -- the choice found has the name
    choice_is : (name : Bytes) (c : CommandOption) (b : Bool) → find (λ k. bytes_eq k.name name) f.choices ≡ Some c → c.is_valued ≡ b → HasChoice f name b
    choice_is name c b i v = i ∙ ap₂ (λ n t. Some (record { name = n; is_valued = t })) (same_text c.name name (found_passes (λ k. bytes_eq k.name name) f.choices c i)) v

    without : Lacks 61 (x ∷ xs) → Rest f us o (w ∷ rest) (run_rows f (resting us o placed) (w ∷ rest))
    without lacks = by_choice (find (λ c. bytes_eq c.name (x ∷ xs)) f.choices) refl
      where
        is : long_of w ≡ Some (x ∷ xs, None)
        is = ap (λ p. Some p) (name_and_value-without (x ∷ xs) lacks)

        by_kind : (c : CommandOption) (b : Bool) → c.is_valued ≡ b → find (λ k. bytes_eq k.name (x ∷ xs)) f.choices ≡ Some c → Rest f us o (w ∷ rest) (run_rows f (resting us o placed) (w ∷ rest))
        by_kind c true v i = value_behind_case f x xs rest (choice_is (x ∷ xs) c true i v) is ih2 us o placed k allowed e
        by_kind c false v i = flag_case f x xs rest (choice_is (x ∷ xs) c false i v) is ih us o placed k allowed e

        by_choice : (found : Option CommandOption) → find (λ k. bytes_eq k.name (x ∷ xs)) f.choices ≡ found → Rest f us o (w ∷ rest) (run_rows f (resting us o placed) (w ∷ rest))
        by_choice None i = absurd (no_choice (x ∷ xs) None is i)
        by_choice (Some c) i = by_kind c c.is_valued refl i

    with_value : Cut (x ∷ xs) → Rest f us o (w ∷ rest) (run_rows f (resting us o placed) (w ∷ rest))
    with_value parts = by_choice (find (λ c. bytes_eq c.name parts.name) f.choices) refl
      where
        is : long_of w ≡ Some (parts.name, Some parts.value)
        is = ap (λ p. Some p) (ap name_and_value parts.parts ∙ name_and_value-at parts.name parts.value parts.lacks)

        by_kind : (c : CommandOption) (b : Bool) → c.is_valued ≡ b → find (λ k. bytes_eq k.name parts.name) f.choices ≡ Some c → Rest f us o (w ∷ rest) (run_rows f (resting us o placed) (w ∷ rest))
        by_kind c true v i = value_joined_case f x xs parts.name parts.value rest parts.parts (choice_is parts.name c true i v) is ih us o placed k allowed e
        by_kind c false v i =
            let has = choice_is parts.name c false i v in
            let fault = flag_with_value f us o placed w parts.name parts.value refl is (by_long f parts.name ∙ ap (option_map built_choice) has) in absurd
            (clash (turn_fault (built_shape f) [] (resting us o placed) w) kind.TooManyValues [] fault turn)

        by_choice : (found : Option CommandOption) → find (λ k. bytes_eq k.name parts.name) f.choices ≡ found → Rest f us o (w ∷ rest) (run_rows f (resting us o placed) (w ∷ rest))
        by_choice None i = absurd (no_choice parts.name (Some parts.value) is i)
        by_choice (Some c) i = by_kind c c.is_valued refl i

step : (f : Form) → HasOwnWord f → (w : Bytes) (rest : List Bytes) → Sound f rest → Behind f rest → Sound f (w ∷ rest)
step f good w rest ih ih2 us o placed k allowed e =
    ⊎_elim (λ t. subst (λ y. Sound f (y ∷ rest)) (sym t) (dashes_case f good rest) us o placed k allowed e)
    (λ s. ⊎_elim (λ t. subst (λ y. Sound f (y ∷ rest)) (sym t.2) (long_case f t.0 t.1 rest ih ih2) us o placed k allowed e)
    (λ plain. plain_case f good w rest plain ih us o placed k allowed e) s)
    (view w (both (dash_is_allowed false w) (dashes_are_allowed rest (bytes_eq w dashes)) allowed).0)

-- what clap takes behind a command's name is spelt by the grammar
pub sound : (f : Form) → HasOwnWord f → (words : List Bytes) → Sound f words
sound f good [] = λ us o placed k allowed e. at_end f us o k (resting us o placed) refl e
sound f good (w ∷ []) = step f good w [] (sound f good []) tt
sound f good (w ∷ v ∷ rest) = step f good w (v ∷ rest) (sound f good (v ∷ rest)) (sound f good rest)
