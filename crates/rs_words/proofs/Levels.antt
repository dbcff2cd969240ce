-- The two levels of a parse: the command's name, and what stands behind it.
use Rattle.std.proofs.Common.{◌≡◌, Bool, true, false, not, ◌&&◌, ◌||◌, List, [], ◌∷◌, ◌++◌, map, Option, Some, None, option_map, is_some, cond, refl, sym, ap, ap₂, subst, ◌∙◌, codes, ⊎_elim}
use Rattle.std.specs.Prelude.{find, fold}
use Rattle.std.specs.List.{list_any}
use Rattle.std.specs.Option.{option_map_or}
use Rattle.std.specs.Str.{bytes_eq}
use Rattle.std.proofs.lemmas.List.{append_assoc}
use Rattle.clap.specs.Kinds.{Kinds, or_else}
use Rattle.clap.specs.Walk.{Names, Walk, answers_to, finished, has_row, idle, nothing_held, settled, subcommand_met, walk, walk_from, walked, with_default}
use Rattle.clap.specs.Faults.{check_fault, default_fault, defaults_fault, entered_fault, fault_of, level_fault, settle_fault, turn_fault, walk_fault}
use Rattle.clap.specs.Takes.{is_given}
use Rattle.clap.specs.Simple.{entered, label_of, names_of, rows_at}
use Rattle.clap.specs.Words.{Row, Shape, built, subcommand_of}
use Rattle.clap.specs.declared.error.kind.ErrorKind.TheVariants as kind
use Rattle.rs_words.specs.Clap.{app, dash_is_allowed}
use Rattle.rs_words.specs.Grammar.{CommandOption, Form, Bytes, option_word, forms}
use Rattle.rs_words.proofs.Lookups.{built_choice, built_rules, built_shape, built_word, taker}
use Rattle.rs_words.proofs.Sound.{clash, no_kinds, ends, run_fault, run_rows, view}
use Rattle.rs_words.proofs.Turns.{append_nil, dashes, plain_is_no_dash, resting}

abbrev pub start : Walk
start = resting [] None false

abbrev pub top : Shape
top = (built app).top

abbrev pub names : Names
names = names_of (built app)

-- ---- the command's own level

or_nil : (a : Kinds) → or_else a [] ≡ a
or_nil [] = refl
or_nil (k ∷ ks) = refl

default_none : (b : Bool) → cond {A = Kinds} b [] [] ≡ []
default_none true = refl
default_none false = refl

or_true : (b : Bool) → (b || true) ≡ true
or_true true = refl
or_true false = refl

word_default : (rows : List Row) (id : Bytes) → default_fault rows (taker id None (Some 1)) ≡ []
word_default rows id = rw (or_true (has_row id rows)) refl

choice_default : (v : Bool) (name : Bytes) (rows : List Row) → default_fault rows (built_choice (record { name = name; is_valued = v })) ≡ []
choice_default true name rows = rw (or_true (has_row name rows)) refl
choice_default false name rows = default_none (has_row name rows || false)

pub no_defaults : (w : Option Bytes) (cs : List CommandOption) (rows : List Row) → defaults_fault rows (map built_choice cs ++ built_word w) ≡ []
unfolding defaults_fault
no_defaults None [] rows = refl
no_defaults (Some id) [] rows = ap (λ k. or_else k []) (word_default rows id)
no_defaults w (c ∷ cs) rows = ap (λ k. or_else k (defaults_fault (with_default rows (built_choice c)) (map built_choice cs ++ built_word w))) (choice_default c.is_valued c.name rows)
    ∙ no_defaults w cs (with_default rows (built_choice c))

choice_free : (v : Bool) (name : Bytes) → (built_choice (record { name = name; is_valued = v })).required ≡ false
choice_free true name = refl
choice_free false name = refl

none_required : (p : Bytes → Bool) (w : Option Bytes) (cs : List CommandOption) → list_any (λ a. a.required && p a.id) (map built_choice cs ++ built_word w) ≡ false
none_required p None [] = refl
none_required p (Some id) [] = refl
none_required p w (c ∷ cs) = ap (λ b. (b && p (built_choice c).id) || list_any (λ a. a.required && p a.id) (map built_choice cs ++ built_word w)) (choice_free c.is_valued c.name)
    ∙ none_required p w cs

pub level_is : (f : Form) (rest : List Bytes) → level_fault (built_shape f) [] nothing_held rest false [] ≡ run_fault f start rest
level_is f rest =
    let rows = finished (built_rules f) (ends f start rest).held in
    let checks : check_fault (built_shape f) rows false ≡ [] = ap (λ b. cond b (kind.MissingRequiredArgument ∷ []) []) (none_required (λ id. not (is_given id rows)) f.word f.choices) in
    ap₂ (λ d k. or_else (walk_fault (built_shape f) [] start rest) (or_else (settle_fault (built_rules f) false (ends f start rest).held) (or_else d k)))
    (no_defaults f.word f.choices (settled (built_rules f) (ends f start rest).held).rows) checks
    ∙ ap (or_else (walk_fault (built_shape f) [] start rest)) (or_nil (settle_fault (built_rules f) false (ends f start rest).held))

-- ---- the name of the command

pub name_found : (n : Bytes) (fs : List Form) → find (answers_to n) (map label_of (map built_shape fs)) ≡ option_map (λ f. (f.name, [])) (find (λ f. bytes_eq f.name n) fs)
name_found n [] = refl
name_found n (f ∷ fs) = go (bytes_eq f.name n) (name_found n fs)
  where
    go : (b : Bool) → find (answers_to n) (map label_of (map built_shape fs)) ≡ option_map (λ g. (g.name, [])) (find (λ g. bytes_eq g.name n) fs)
        → cond (b || false) (Some (f.name, [])) (find (answers_to n) (map label_of (map built_shape fs))) ≡ option_map (λ g. (g.name, [])) (cond b (Some f) (find (λ g. bytes_eq g.name n) fs))
    go true h = refl
    go false h = h

pub shape_found : (n : Bytes) (fs : List Form) → find (λ s. answers_to n (label_of s)) (map built_shape fs) ≡ option_map built_shape (find (λ f. bytes_eq f.name n) fs)
shape_found n [] = refl
shape_found n (f ∷ fs) = go (bytes_eq f.name n) (shape_found n fs)
  where
    go : (b : Bool) → find (λ s. answers_to n (label_of s)) (map built_shape fs) ≡ option_map built_shape (find (λ g. bytes_eq g.name n) fs)
        → cond (b || false) (Some (built_shape f)) (find (λ s. answers_to n (label_of s)) (map built_shape fs)) ≡ option_map built_shape (cond b (Some f) (find (λ g. bytes_eq g.name n) fs))
    go true h = refl
    go false h = h

-- the walk where it met a command
abbrev pub stop : Bytes → List Bytes → Walk
stop name words = record (walk_from nothing_held) { stopped = Some (name, words) }

stays : (name : Bytes) (rest words : List Bytes) → fold (walked [] names) (stop name words) rest ≡ stop name (words ++ rest)
unfolding walked
stays name [] words = ap (stop name) (sym (append_nil words))
stays name (w ∷ rest) words = stays name rest (words ++ w ∷ []) ∙ ap (stop name) (append_assoc words (w ∷ []) rest)

stays_well : (name : Bytes) (rest words : List Bytes) → walk_fault top names (stop name words) rest ≡ []
unfolding walk_fault walked
stays_well name [] words = refl
stays_well name (w ∷ rest) words = stays_well name rest (words ++ w ∷ [])

and_false : (b : Bool) → (b && false) ≡ false
and_false true = refl
and_false false = refl

module _ (n name : Bytes) (met : subcommand_met names idle n ≡ Some name) where
  met_walk : walked [] names (walk_from nothing_held) n ≡ stop name []
  unfolding walked
  met_walk = rw met refl

  met_turn : turn_fault top names (walk_from nothing_held) n ≡ []
  met_turn = rw (met, and_false (bytes_eq name (codes "help"))) refl

  pub whole_walk : (rest : List Bytes) → walk [] names nothing_held (n ∷ rest) ≡ stop name rest
  whole_walk rest = ap (λ w. fold (walked [] names) w rest) met_walk ∙ stays name rest []

  pub whole_fault : (rest : List Bytes) → walk_fault top names (walk_from nothing_held) (n ∷ rest) ≡ []
  unfolding walk_fault
  whole_fault rest = ap₂ (λ k w. or_else k (walk_fault top names w rest)) met_turn met_walk ∙ stays_well name rest []

-- ---- both levels

-- what fails after the first level's walk
abbrev pub fault_from : Walk → Kinds → Kinds
fault_from w k = level_from w.stopped
  where
    level_from : Option (Bytes × List Bytes) → Kinds
    level_from stop = or_else k (or_else (entered_fault (built app) stop)
        (or_else (settle_fault top.rules false w.held) (or_else (defaults_fault (settled top.rules w.held).rows top.rules)
        (check_fault top (finished top.rules w.held) (is_some (entered (built app) stop))))))

pub fault_is : (words : List Bytes) → fault_of app words ≡ fault_from (walk [] names nothing_held words) (walk_fault top names (walk_from nothing_held) words)
fault_is words = refl

-- the second level, of the command that was found
abbrev pub fault_in : Option Shape → List Bytes → Kinds
fault_in o rest = or_else (option_map_or (λ s. level_fault s [] nothing_held rest false []) o []) (check_fault top [] (is_some (option_map (λ s. rows_at s rest) o)))

in_found : (name : Bytes) (rest : List Bytes) → fault_from (stop name rest) [] ≡ fault_in (find (λ s. answers_to name (label_of s)) (map built_shape forms)) rest
unfolding defaults_fault
in_found name rest = refl

module _ (f : Form) (known : find (λ g. bytes_eq g.name f.name) forms ≡ Some f) where
  met_name : subcommand_met names idle f.name ≡ Some f.name
  met_name = ap (option_map (λ s. s.0)) (name_found f.name forms ∙ ap (option_map (λ g. (g.name, []))) known)

  shape_is : find (λ s. answers_to f.name (label_of s)) (map built_shape forms) ≡ Some (built_shape f)
  shape_is = shape_found f.name forms ∙ ap (option_map built_shape) known

  pub command_fault : (rest : List Bytes) → fault_of app (f.name ∷ rest) ≡ run_fault f start rest
  command_fault rest = fault_is (f.name ∷ rest) ∙ ap₂ fault_from (whole_walk f.name f.name met_name rest) (whole_fault f.name f.name met_name rest) ∙ in_found f.name rest
      ∙ ap (λ o. fault_in o rest) shape_is ∙ or_nil (level_fault (built_shape f) [] nothing_held rest false []) ∙ level_is f rest

  pub command_rows : (rest : List Bytes) → subcommand_of app (f.name ∷ rest) ≡ Some (f.name, fold with_default (run_rows f start rest) (built_rules f))
  command_rows rest = ap (λ w. entered (built app) w.stopped) (whole_walk f.name f.name met_name rest) ∙ ap (option_map (λ s. rows_at s rest)) shape_is

-- ---- no command's name

first_turn : (n : Bytes) (rest : List Bytes) → fault_of app (n ∷ rest) ≡ [] → turn_fault top names (walk_from nothing_held) n ≡ []
unfolding walk_fault
first_turn n rest e =
    let whole = no_kinds (walk_fault top names (walk_from nothing_held) (n ∷ rest)) (rest_of (walk [] names nothing_held (n ∷ rest))) e in
    (no_kinds (turn_fault top names (walk_from nothing_held) n) (walk_fault top names (walked [] names (walk_from nothing_held) n) rest) whole.0).0
  where
    rest_of : Walk → Kinds
    rest_of w = or_else (entered_fault (built app) w.stopped)
        (or_else (settle_fault top.rules false w.held) (or_else (defaults_fault (settled top.rules w.held).rows top.rules)
        (check_fault top (finished top.rules w.held) (is_some (entered (built app) w.stopped)))))

dashes_first : (rest : List Bytes) → fault_of app (dashes ∷ rest) ≡ [] → ⊥
unfolding walk_fault walked defaults_fault
dashes_first [] e = clash (fault_of app (dashes ∷ [])) kind.MissingSubcommand [] refl e
dashes_first (t ∷ more) e = clash (fault_of app (dashes ∷ t ∷ more)) kind.UnknownArgument (kind.InvalidSubcommand ∷ []) refl e

pub no_command : (n : Bytes) (rest : List Bytes) → find (λ g. bytes_eq g.name n) forms ≡ None → dash_is_allowed false n ≡ true → fault_of app (n ∷ rest) ≡ [] → ⊥
no_command n rest none allowed e =
    let turn = first_turn n rest e in
    ⊎_elim (λ t. dashes_first rest (subst (λ y. fault_of app (y ∷ rest) ≡ []) t e))
    (λ s. ⊎_elim (λ t.
    clash (turn_fault top names (walk_from nothing_held) (option_word (t.0 ∷ t.1))) kind.UnknownArgument [] refl (subst (λ y. turn_fault top names (walk_from nothing_held) y ≡ []) t.2 turn))
    (λ plain.
    let p = plain_is_no_dash n plain in
    let fault : turn_fault top names (walk_from nothing_held) n ≡ kind.UnknownArgument ∷ kind.InvalidSubcommand ∷ [] = rw (unmet, p.0, p.1, p.2) refl in
    clash (turn_fault top names (walk_from nothing_held) n) kind.UnknownArgument (kind.InvalidSubcommand ∷ []) fault turn) s)
    (view n allowed)
  where
    unmet : subcommand_met names idle n ≡ None
    unmet = ap (option_map (λ s. s.0)) (name_found n forms ∙ ap (option_map (λ g. (g.name, []))) none)

pub no_words : fault_of app [] ≡ [] → ⊥
unfolding walk_fault defaults_fault
no_words e = clash (fault_of app []) kind.MissingSubcommand [] refl e
