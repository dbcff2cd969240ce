-- The texts that clap's rows have are those of the uses.
use Rattle.std.proofs.Common.{◌≡◌, ◌==◌, ℕ, Bool, length, nat_lt, true, false, not, ◌&&◌, ◌||◌, List, [], ◌∷◌, ◌++◌, map, Option, Some, None, option_map, is_some, cond, refl, sym, ap, subst, ◌∙◌}
use Rattle.std.proofs.Common.{true≢false, codes, ◌⊎◌, inl, inr, ⊎_elim}
use Rattle.std.specs.Prelude.{find, fold, slice_get, option_and_then}
use Rattle.std.specs.List.{list_all, list_any}
use Rattle.std.specs.Str.{bytes_eq}
use Rattle.clap.specs.Walk.{at_row, first_of, has_row, more_values, with_default}
use Rattle.clap.specs.Words.{Row}
use Rattle.clap.proofs.SimpleLemmas.{is_false}
use Rattle.clap.proofs.WalkLemmas.{both}
use Rattle.rs_words.proofs.Sound.{HasOwnWord, word_is}
use Rattle.rs_words.proofs.Complete.{HasPlainNames}
use Rattle.clap.specs.declared.parser.matches.ValueSource.TheVariants.{DefaultValue}
use Rattle.clap.specs.declared.builder.value_parser.Reading.TheVariants as reading
use Rattle.rs_words.specs.Clap.{found_text, is_flag_name, is_true_text}
use Rattle.rs_words.specs.Grammar.{AllStand, CommandOption, EndingStands, WordsEnd, Form, WordPiece, PieceStands, Bytes, Use, value_behind, begins_with_dash, dashes_and_word, forms, ending_uses}
use Rattle.rs_words.specs.Grammar.{flag, HasChoice, value_joined, nothing, use_of, positional, dashes_alone}
use Rattle.rs_words.specs.Meaning.{draw_task, task_of, text_of_use}
use Rattle.rs_words.proofs.Lookups.{built_choice, built_rules, built_word, flagger, same_text, taker}
use Rattle.rs_words.proofs.Turns.{rows_of_uses, row_of_use}

pub first_is : (id : Bytes) (us : List Use) → first_of id (rows_of_uses us) ≡ text_of_use id us
first_is id [] = refl
first_is id (u ∷ us) = go (bytes_eq u.id id) (first_is id us)
  where
    go : (b : Bool) → first_of id (rows_of_uses us) ≡ text_of_use id us
        → option_and_then (λ r. slice_get r.values 0) (cond b (Some (row_of_use u)) (find (λ r. bytes_eq r.id id) (rows_of_uses us))) ≡ option_map (λ v. v.value)
        (cond b (Some u) (find (λ v. bytes_eq v.id id) us))
    go true h = refl
    go false h = h

not_both : (o : Option Bytes) (t : Bytes) → o ≡ None → o ≡ Some t → ⊥
not_both o t a b = cc

-- ---- defaults

abbrev default_row : Bytes → Row
default_row name = record { id = name; values = codes "false" ∷ []; count = None; source = Some DefaultValue; reading = reading.AsWritten }

abbrev first_in : Option Row → Option Bytes
first_in o = option_and_then (λ r. slice_get r.values 0) o

none_there : (id : Bytes) (rows : List Row) → has_row id rows ≡ false → first_of id rows ≡ None
none_there id [] e = refl
none_there id (r ∷ rs) e = go (bytes_eq r.id id) e (none_there id rs)
  where
    go : (b : Bool) → (b || has_row id rs) ≡ false → (has_row id rs ≡ false → first_of id rs ≡ None) → first_in (cond b (Some r) (find (λ s. bytes_eq s.id id) rs)) ≡ None
    go true h more = absurd (true≢false h)
    go false h more = more h

row_appended : (name : Bytes) (change : Row → List Row) (missing rows : List Row) → has_row name rows ≡ false → at_row name change missing rows ≡ rows ++ missing
row_appended name change missing [] e = refl
row_appended name change missing (r ∷ rs) e = go (bytes_eq r.id name) e (row_appended name change missing rs)
  where
    go : (b : Bool) → (b || has_row name rs) ≡ false → (has_row name rs ≡ false → at_row name change missing rs ≡ rs ++ missing)
        → cond b (change r ++ rs) (r ∷ at_row name change missing rs) ≡ r ∷ (rs ++ missing)
    go true h more = absurd (true≢false h)
    go false h more = ap (λ l. r ∷ l) (more h)

-- a row at the end, of this id or of another
first_own : (id : Bytes) (rows : List Row) (r : Row) → has_row id rows ≡ false → bytes_eq r.id id ≡ true → first_of id (rows ++ r ∷ []) ≡ slice_get r.values 0
first_own id [] r e same = rw same refl
first_own id (s ∷ rs) r e same = go (bytes_eq s.id id) e (λ h. first_own id rs r h same)
  where
    go : (b : Bool) → (b || has_row id rs) ≡ false → (has_row id rs ≡ false → first_of id (rs ++ r ∷ []) ≡ slice_get r.values 0)
        → first_in (cond b (Some s) (find (λ t. bytes_eq t.id id) (rs ++ r ∷ []))) ≡ slice_get r.values 0
    go true h more = absurd (true≢false h)
    go false h more = more h

first_other : (id : Bytes) (rows : List Row) (r : Row) → bytes_eq r.id id ≡ false → first_of id (rows ++ r ∷ []) ≡ first_of id rows
first_other id [] r other = rw other refl
first_other id (s ∷ rs) r other = go (bytes_eq s.id id) (first_other id rs r other)
  where
    go : (b : Bool) → first_of id (rs ++ r ∷ []) ≡ first_of id rs
        → first_in (cond b (Some s) (find (λ t. bytes_eq t.id id) (rs ++ r ∷ []))) ≡ first_in (cond b (Some s) (find (λ t. bytes_eq t.id id) rs))
    go true h = refl
    go false h = h

same_branch : {A : Type 0} (b : Bool) (x : A) → cond b x x ≡ x
same_branch true x = refl
same_branch false x = refl

taker_default : (rows : List Row) (id : Bytes) (long : Option Bytes) (index : Option ℕ) → with_default rows (taker id long index) ≡ rows
taker_default rows id long index = same_branch (has_row id rows) rows

flag_there : (rows : List Row) (name : Bytes) → has_row name rows ≡ true → with_default rows (flagger name) ≡ rows
flag_there rows name e = rw e refl

flag_default : (rows : List Row) (name : Bytes) → has_row name rows ≡ false → with_default rows (flagger name) ≡ rows ++ default_row name ∷ []
flag_default rows name e = rw e (row_appended name (more_values DefaultValue (codes "false" ∷ [])) (default_row name ∷ []) rows e)

abbrev flags_named : Bytes → List CommandOption → Bool
flags_named id cs = list_any (λ c. not c.is_valued && bytes_eq c.name id) cs

-- what the defaults change: the text of a flag that was not used
abbrev Unchanged : Bytes → List Row → List Row → Bool → Type 0
Unchanged id rows final flagged = (first_of id final ≡ first_of id rows) ⊎ ((first_of id rows ≡ None) × (first_of id final ≡ Some (codes "false")) × (flagged ≡ true))

more_flags : (id : Bytes) (rows final : List Row) (a b : Bool) → Unchanged id rows final b → Unchanged id rows final (a || b)
more_flags id rows final true b (inl h) = inl h
more_flags id rows final true b (inr h) = inr (h.0, h.1, refl)
more_flags id rows final false b h = h

pub after_defaults : (id : Bytes) (w : Option Bytes) (cs : List CommandOption) (rows : List Row) → Unchanged id rows (fold with_default rows (map built_choice cs ++ built_word w)) (flags_named id cs)
after_defaults id None [] rows = inl refl
after_defaults id (Some i) [] rows = inl (ap (first_of id) (taker_default rows i None (Some 1)))
after_defaults id w (c ∷ cs) rows = by_kind c.is_valued c.name (after_defaults id w cs)
  where
    by_kind : (v : Bool) (name : Bytes) → ((rs : List Row) → Unchanged id rs (fold with_default rs (map built_choice cs ++ built_word w)) (flags_named id cs))
        → Unchanged id rows (fold with_default (with_default rows (built_choice (record { name = name; is_valued = v }))) (map built_choice cs ++ built_word w))
        ((not v && bytes_eq name id) || flags_named id cs)
    by_kind true name ih = subst (λ rs. Unchanged id rows (fold with_default rs (map built_choice cs ++ built_word w)) (flags_named id cs)) (sym (taker_default rows name (Some name) None)) (ih rows)
    by_kind false name ih = by_there (has_row name rows) refl
      where
        by_there : (b : Bool) → has_row name rows ≡ b → Unchanged id rows (fold with_default (with_default rows (flagger name)) (map built_choice cs ++ built_word w))
            (bytes_eq name id || flags_named id cs)
        by_there true e = subst (λ rs. Unchanged id rows (fold with_default rs (map built_choice cs ++ built_word w)) (bytes_eq name id || flags_named id cs)) (sym (flag_there rows name e))
            (more_flags id rows (fold with_default rows (map built_choice cs ++ built_word w)) (bytes_eq name id) (flags_named id cs) (ih rows))
        by_there false e = subst (λ rs. Unchanged id rows (fold with_default rs (map built_choice cs ++ built_word w)) (bytes_eq name id || flags_named id cs)) (sym (flag_default rows name e))
            (by_name (bytes_eq name id) refl)
          where
            by_name : (b : Bool) → bytes_eq name id ≡ b → Unchanged id rows (fold with_default (rows ++ default_row name ∷ []) (map built_choice cs ++ built_word w)) (b || flags_named id cs)
            by_name true same =
                let there : has_row id rows ≡ false = subst (λ n. has_row n rows ≡ false) (same_text name id same) e in
                let own : first_of id (rows ++ default_row name ∷ []) ≡ Some (codes "false") = first_own id rows (default_row name) there same in
                ⊎_elim (λ s. inr (none_there id rows there, s ∙ own, refl)) (λ h. absurd (not_both (first_of id (rows ++ default_row name ∷ [])) (codes "false") h.0 own))
                (ih (rows ++ default_row name ∷ []))
            by_name false other =
                let as_before : first_of id (rows ++ default_row name ∷ []) ≡ first_of id rows = first_other id rows (default_row name) other in
                ⊎_elim (λ s. inl (s ∙ as_before)) (λ h. inr (sym as_before ∙ h.0, h.1, h.2)) (ih (rows ++ default_row name ∷ []))

-- ---- what a form must be for the texts to be told by their ids

-- no `=` in the option's name, which is not empty, and is that of a flag exactly where it has no value
abbrev pub choice_test : CommandOption → Bool
choice_test c = not (list_any (λ x. x == 61) c.name) && (nat_lt 0 (length c.name) && cond c.is_valued (not (is_flag_name c.name)) (is_flag_name c.name))

abbrev pub word_test : Option Bytes → List CommandOption → Bool
word_test None cs = true
word_test (Some id) cs = not (is_some (find (λ k. bytes_eq k.name id) cs)) && not (is_flag_name id)

abbrev pub form_test : Form → Bool
form_test f = not (begins_with_dash f.name) && (list_all choice_test f.choices && word_test f.word f.choices)

pub forms_pass : list_all form_test forms ≡ true
forms_pass = refl

pub found_test : {X : Type 0} (t p : X → Bool) (xs : List X) (x : X) → list_all t xs ≡ true → find p xs ≡ Some x → t x ≡ true
found_test t p [] x a e = cc
found_test t p (y ∷ ys) x a e = go (p y) e (found_test t p ys x (both (t y) (list_all t ys) a).1)
  where
    go : (b : Bool) → cond b (Some y) (find p ys) ≡ Some x → (find p ys ≡ Some x → t x ≡ true) → t x ≡ true
    go true h later = let same : y ≡ x = cc in subst (λ z. t z ≡ true) same (both (t y) (list_all t ys) a).0
    go false h later = later h

pub record WellMade (f : Form) : Type 0 where
  pub plain : begins_with_dash f.name ≡ false
  pub good : HasOwnWord f
  pub names : HasPlainNames f
  pub flags : (id : Bytes) → flags_named id f.choices ≡ true → is_flag_name id ≡ true
  pub unvalued : (name : Bytes) → is_flag_name name ≡ true → HasChoice f name true → ⊥
  pub other_word : (id : Bytes) → f.word ≡ Some id → is_flag_name id ≡ false

some_text : (xs : Bytes) → nat_lt 0 (length xs) ≡ true → (x : ℕ) × (ys : Bytes) × (xs ≡ x ∷ ys)
some_text [] e = absurd (true≢false (sym e))
some_text (x ∷ xs) e = (x, xs, refl)

is_none : {X : Type 0} (o : Option X) → not (is_some o) ≡ true → o ≡ None
is_none None e = refl
is_none (Some x) e = absurd (true≢false (sym e))

flags_are : (id : Bytes) (cs : List CommandOption) → list_all choice_test cs ≡ true → flags_named id cs ≡ true → is_flag_name id ≡ true
flags_are id [] a e = absurd (true≢false (sym e))
flags_are id (c ∷ cs) a e = go c.is_valued c.name (both (choice_test c) (list_all choice_test cs) a).0 e (flags_are id cs (both (choice_test c) (list_all choice_test cs) a).1)
  where
    go : (v : Bool) (name : Bytes) → choice_test (record { name = name; is_valued = v }) ≡ true → ((not v && bytes_eq name id) || flags_named id cs) ≡ true
        → (flags_named id cs ≡ true → is_flag_name id ≡ true) → is_flag_name id ≡ true
    go true name t h later = later h
    go false name t h later = by_name (bytes_eq name id) refl h
      where
        own : is_flag_name name ≡ true
        own = (both (nat_lt 0 (length name)) (is_flag_name name) (both (not (list_any (λ x. x == 61) name)) (nat_lt 0 (length name) && is_flag_name name) t).1).1

        by_name : (b : Bool) → bytes_eq name id ≡ b → (b || flags_named id cs) ≡ true → is_flag_name id ≡ true
        by_name true same k = subst (λ n. is_flag_name n ≡ true) (same_text name id same) own
        by_name false other k = later k

pub well_made : (f : Form) → form_test f ≡ true → WellMade f
well_made f e = record {
  plain = is_false (begins_with_dash f.name) first.0;
  good = λ id w. is_none (find (λ k. bytes_eq k.name id) f.choices) (words id w).0;
  names = λ name b has. let t = tested name b has in let u = both (not (list_any (λ x. x == 61) name)) (nat_lt 0 (length name) && cond b (not (is_flag_name name)) (is_flag_name name))
      t in
      (is_false (list_any (λ x. x == 61) name) u.0, some_text name (both (nat_lt 0 (length name)) (cond b (not (is_flag_name name)) (is_flag_name name)) u.1).0);
  flags = λ id h. flags_are id f.choices second.0 h;
  unvalued = λ name is has. let t = tested name true has in
      true≢false (sym is ∙ is_false (is_flag_name name) (both (nat_lt 0 (length name)) (not (is_flag_name name)) (both (not (list_any (λ x. x == 61) name)) (nat_lt 0 (length name) && not (is_flag_name name)) t).1).1);
  other_word = λ id w. is_false (is_flag_name id) (words id w).1;
}
  where
    first : (not (begins_with_dash f.name) ≡ true) × ((list_all choice_test f.choices && word_test f.word f.choices) ≡ true)
    first = both (not (begins_with_dash f.name)) (list_all choice_test f.choices && word_test f.word f.choices) e

    second : (list_all choice_test f.choices ≡ true) × (word_test f.word f.choices ≡ true)
    second = both (list_all choice_test f.choices) (word_test f.word f.choices) first.1

    words : (id : Bytes) → f.word ≡ Some id → (not (is_some (find (λ k. bytes_eq k.name id) f.choices)) ≡ true) × (not (is_flag_name id) ≡ true)
    words id w = both (not (is_some (find (λ k. bytes_eq k.name id) f.choices))) (not (is_flag_name id)) (subst (λ o. word_test o f.choices ≡ true) w second.1)

    tested : (name : Bytes) (b : Bool) → HasChoice f name b → choice_test (record { name = name; is_valued = b }) ≡ true
    tested name b has = found_test choice_test (λ k. bytes_eq k.name name) f.choices (record { name = name; is_valued = b }) second.0 has

-- ---- the texts

-- a use of the flag has the text `true`
abbrev pub TrueOnly : List Use → Type 0
TrueOnly [] = Unit {0}
TrueOnly (u ∷ us) = (is_flag_name u.id ≡ true → u.value ≡ codes "true") × TrueOnly us

flag_value : (us : List Use) (id : Bytes) → is_flag_name id ≡ true → TrueOnly us → (text_of_use id us ≡ None) ⊎ (text_of_use id us ≡ Some (codes "true"))
flag_value [] id is t = inl refl
flag_value (u ∷ us) id is t = go (bytes_eq u.id id) refl (flag_value us id is t.1)
  where
    go : (b : Bool) → bytes_eq u.id id ≡ b → (text_of_use id us ≡ None) ⊎ (text_of_use id us ≡ Some (codes "true"))
        → (option_map (λ v. v.value) (cond b (Some u) (find (λ v. bytes_eq v.id id) us)) ≡ None) ⊎ (option_map (λ v. v.value) (cond b (Some u) (find (λ v. bytes_eq v.id id) us)) ≡ Some (codes "true"))
    go true e later = inr (ap (λ v. Some v) (t.0 (subst (λ n. is_flag_name n ≡ true) (sym (same_text u.id id e)) is)))
    go false e later = later

use_true : (f : Form) → WellMade f → (p : WordPiece) → PieceStands f p → is_flag_name (use_of f p).id ≡ true → (use_of f p).value ≡ codes "true"
use_true f m (value_behind name v) s e = absurd (m.unvalued name e s.0)
use_true f m (value_joined name v) s e = absurd (m.unvalued name e s)
use_true f m (flag name) s e = refl
use_true f m (positional t) s e = absurd (true≢false (sym e ∙ ap (λ i. is_flag_name i) (ap (λ u. u.id) (word_is f s.0 t s.1)) ∙ m.other_word s.0 s.1))

pub uses_true : (f : Form) → WellMade f → (pieces : List WordPiece) (ending : WordsEnd) → AllStand f pieces → EndingStands f ending → TrueOnly (map (use_of f) pieces ++ ending_uses f ending)
uses_true f m [] nothing a e = tt
uses_true f m [] dashes_alone a e = tt
uses_true f m [] (dashes_and_word t) a e = (use_true f m (positional t) e, tt)
uses_true f m (p ∷ ps) ending a e = (use_true f m p a.0, uses_true f m ps ending a.1 e)

pub texts_found : (f : Form) → WellMade f → (us : List Use) → TrueOnly us → (id : Bytes) → found_text (fold with_default (rows_of_uses us) (built_rules f)) id ≡ text_of_use id us
texts_found f m us t id = go (is_flag_name id) refl (after_defaults id f.word f.choices (rows_of_uses us))
  where
    rows : List Row
    rows = fold with_default (rows_of_uses us) (map built_choice f.choices ++ built_word f.word)

    go : (b : Bool) → is_flag_name id ≡ b → Unchanged id (rows_of_uses us) (fold with_default (rows_of_uses us) (map built_choice f.choices ++ built_word f.word)) (flags_named id f.choices)
        → cond b (cond (is_true_text (first_of id (fold with_default (rows_of_uses us) (map built_choice f.choices ++ built_word f.word)))) (Some (codes "true")) None)
        (first_of id (fold with_default (rows_of_uses us) (map built_choice f.choices ++ built_word f.word))) ≡ text_of_use id us
    go true e (inl h) =
        let value : (text_of_use id us ≡ None) ⊎ (text_of_use id us ≡ Some (codes "true")) = flag_value us id e t in
        ⊎_elim (λ v. let none : first_of id (fold with_default (rows_of_uses us) (map built_choice f.choices ++ built_word f.word)) ≡ None = h ∙ first_is id us ∙ v in rw none (sym v))
        (λ v. let some : first_of id (fold with_default (rows_of_uses us) (map built_choice f.choices ++ built_word f.word)) ≡ Some (codes "true") = h ∙ first_is id us ∙ v in rw some (sym v)) value
    go true e (inr h) = let unused : text_of_use id us ≡ None = sym (first_is id us) ∙ h.0 in rw h.1 (sym unused)
    go false e (inl h) = h ∙ first_is id us
    go false e (inr h) = absurd (true≢false (sym (m.flags id h.2) ∙ e))

-- what `draw` asks for, by the texts that clap found
pub draw_found : (rows : List Row)
    → draw_task (is_true_text (first_of (codes "run") rows)) (first_of (codes "role") rows) (first_of (codes "bound") rows) (first_of (codes "ring") rows) (first_of (codes "limit") rows)
    (first_of (codes "seed") rows) ≡ task_of (codes "draw") (found_text rows)
draw_found rows = go (is_true_text (first_of (codes "run") rows))
  where
    go : (b : Bool)
        → draw_task b (first_of (codes "role") rows) (first_of (codes "bound") rows) (first_of (codes "ring") rows) (first_of (codes "limit") rows) (first_of (codes "seed") rows)
        ≡ draw_task (is_some (cond b (Some (codes "true")) None)) (first_of (codes "role") rows) (first_of (codes "bound") rows) (first_of (codes "ring") rows) (first_of (codes "limit") rows)
        (first_of (codes "seed") rows)
    go true = refl
    go false = refl
