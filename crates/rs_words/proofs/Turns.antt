-- What clap's walk makes of one word behind a command's name.
use Rattle.std.proofs.Common.{◌≡◌, ℕ, Bool, true, false, ◌&&◌, ◌||◌, List, [], ◌∷◌, ◌++◌, map, Option, Some, None, option_map, cond, refl, ap, ◌∙◌, true≢false, codes, ◌⊎◌, inl, inr, ⊎_elim}
use Rattle.std.specs.Prelude.{find}
use Rattle.std.specs.Str.{bytes_eq}
use Rattle.std.proofs.lemmas.Slice.Eq.{bytes_eq-Decides}
use Rattle.clap.specs.Lexer.{long_of, short_of}
use Rattle.clap.specs.Kinds.{or_else}
use Rattle.clap.specs.Walk.{Held, Walk, arg_by_id, arg_by_index, arg_by_long, at_row, has_row, idle, is_pending, more_values, option, settled, used, walked, without}
use Rattle.clap.specs.Faults.{settle_fault, turn_fault, use_fault}
use Rattle.clap.specs.Words.{Row, Rule}
use Rattle.clap.specs.declared.builder.value_parser.Reading.TheVariants as reading
use Rattle.clap.specs.declared.parser.matches.ValueSource.TheVariants.{CommandLine}
use Rattle.clap.specs.declared.error.kind.ErrorKind.TheVariants as kind
use Rattle.rs_words.specs.Grammar.{CommandOption, Form, Bytes, Use, begins_with_dash, option_word, has_use}
use Rattle.rs_words.proofs.Lookups.{taker, flagger, built_choice, built_word, built_rules, built_shape, by_index, by_long, second_place}

-- the row of a use
abbrev pub row_of_use : Use → Row
row_of_use u = record { id = u.id; values = u.value ∷ []; count = None; source = Some CommandLine; reading = reading.AsWritten }

abbrev pub rows_of_uses : List Use → List Row
rows_of_uses us = map row_of_use us

-- a use is at work: it has been read, and is stored with the next word
abbrev pub pending : Option Use → Option (Bytes × List Bytes)
pending o = option_map (λ u. (u.id, u.value ∷ [])) o

abbrev pub listed : Option Use → List Use
listed None = []
listed (Some u) = u ∷ []

abbrev pub held : List Use → Option Use → Held
held us o = record { rows = rows_of_uses us; pending = pending o; skip = 0 }

-- the place of the next positional word
abbrev pub place : Bool → ℕ
place b = cond b 2 1

-- the walk between two words
abbrev pub resting : List Use → Option Use → Bool → Walk
resting us o placed = record { held = held us o; waiting = idle; position = place placed; is_trailing = false; stopped = None }

-- the walk behind `--name`, which waits for its value
abbrev pub waiting : List Use → Bytes → Bool → Walk
waiting us name placed = record { held = record { rows = rows_of_uses us; pending = Some (name, []); skip = 0 }; waiting = option name; position = place placed; is_trailing = false; stopped = None }

-- the walk behind `--`
abbrev pub trailing : List Use → Option Use → Bool → Walk
trailing us o placed = record (resting us o placed) { is_trailing = true }

-- ---- rows

pub has_row_is : (id : Bytes) (us : List Use) → has_row id (rows_of_uses us) ≡ has_use id us
has_row_is id [] = refl
has_row_is id (u ∷ us) = ap (λ b. bytes_eq u.id id || b) (has_row_is id us)

either_false : (a b : Bool) → (a || b) ≡ false → (a ≡ false) × (b ≡ false)
either_false true b e = absurd (true≢false e)
either_false false b e = (refl, e)

pub row_added : (u : Use) (us : List Use) (change : Row → List Row) (missing : List Row) → has_use u.id us ≡ false → at_row u.id change missing (rows_of_uses us) ≡ rows_of_uses us ++ missing
row_added u [] change missing e = refl
row_added u (v ∷ us) change missing e =
    let no = either_false (bytes_eq v.id u.id) (has_use u.id us) e in
    rw no.0 (ap (λ rs. row_of_use v ∷ rs) (row_added u us change missing no.1))

pub append_nil : {A : Type 0} (xs : List A) → xs ++ [] ≡ xs
append_nil [] = refl
append_nil (x ∷ xs) = ap (λ l. x ∷ l) (append_nil xs)

rows_append : (us vs : List Use) → rows_of_uses us ++ rows_of_uses vs ≡ rows_of_uses (us ++ vs)
rows_append [] vs = refl
rows_append (u ∷ us) vs = ap (λ l. row_of_use u ∷ l) (rows_append us vs)

-- a new use of what takes one text adds its row
pub use_adds : (u : Use) (long : Option Bytes) (index : Option ℕ) (us : List Use) → has_use u.id us ≡ false
    → used (taker u.id long index) (u.value ∷ []) (rows_of_uses us) ≡ rows_of_uses (us ++ u ∷ [])
use_adds u long index us e =
    let clean : without u.id (rows_of_uses us) ≡ rows_of_uses us = row_added u us (λ _. []) [] e ∙ append_nil (rows_of_uses us) in
    rw clean (row_added u us (more_values CommandLine (u.value ∷ [])) (row_of_use u ∷ []) e ∙ rows_append us (u ∷ []))

pub flag_adds : (name : Bytes) (us : List Use) → has_use name us ≡ false → used (flagger name) [] (rows_of_uses us) ≡ rows_of_uses (us ++ record { id = name; value = codes "true" } ∷ [])
flag_adds name us e =
    let u : Use = record { id = name; value = codes "true" } in
    let clean : without name (rows_of_uses us) ≡ rows_of_uses us = row_added u us (λ _. []) [] e ∙ append_nil (rows_of_uses us) in
    rw clean (row_added u us (more_values CommandLine (codes "true" ∷ [])) (row_of_use u ∷ []) e ∙ rows_append us (u ∷ []))

conflict : (b : Bool) → or_else (cond (b && true) (kind.ArgumentConflict ∷ []) []) [] ≡ cond b (kind.ArgumentConflict ∷ []) []
conflict true = refl
conflict false = refl

-- a use passes exactly where it is new
pub use_faults : (u : Use) (long : Option Bytes) (index : Option ℕ) (us : List Use)
    → use_fault false (taker u.id long index) (u.value ∷ []) (rows_of_uses us) ≡ cond (has_use u.id us) (kind.ArgumentConflict ∷ []) []
use_faults u long index us = rw (has_row_is u.id us) (conflict (has_use u.id us))

pub flag_faults : (name : Bytes) (us : List Use) → use_fault false (flagger name) [] (rows_of_uses us) ≡ cond (has_use name us) (kind.ArgumentConflict ∷ []) []
flag_faults name us = rw (has_row_is name us) (conflict (has_use name us))

-- ---- what is pending

-- what is pending takes one text
abbrev pub Known : Form → Option Use → Type 0
Known f None = Unit {0}
Known f (Some u) = (long : Option Bytes) × (index : Option ℕ) × (arg_by_id (built_rules f) u.id ≡ Some (taker u.id long index))

-- what is pending was used before
abbrev pub again : List Use → Option Use → Bool
again us None = false
again us (Some u) = has_use u.id us

abbrev pub stored : List Use → Option Use → List Use
stored us None = us
stored us (Some u) = us ++ u ∷ []

pub settle_faults : (f : Form) (us : List Use) (o : Option Use) → Known f o → settle_fault (built_rules f) false (held us o) ≡ cond (again us o) (kind.ArgumentConflict ∷ []) []
settle_faults f us None k = refl
settle_faults f us (Some u) k = rw k.2 (use_faults u k.0 k.1 us)

pub settles : (f : Form) (us : List Use) (o : Option Use) → Known f o → again us o ≡ false → settled (built_rules f) (held us o) ≡ held (stored us o) None
settles f us None k e = refl
settles f us (Some u) k e = rw k.2 (ap (λ rows. record { rows = rows; pending = None; skip = 0 }) (use_adds u k.0 k.1 us e))

-- an option without its value never settles
pub never_settles : (f : Form) (us : List Use) (name : Bytes) (long : Option Bytes) (index : Option ℕ) → arg_by_id (built_rules f) name ≡ Some (taker name long index)
    → settle_fault (built_rules f) false (record { rows = rows_of_uses us; pending = Some (name, []); skip = 0 }) ≡ kind.InvalidValue ∷ []
never_settles f us name long index e = rw e refl

-- ---- words

abbrev pub dashes : Bytes
dashes = option_word []

pub plain_is_no_dash : (w : Bytes) → begins_with_dash w ≡ false → (bytes_eq w dashes ≡ false) × (long_of w ≡ None) × (short_of w ≡ None)
plain_is_no_dash [] e = (refl, refl, refl)
plain_is_no_dash (x ∷ xs) e = (rw e refl, rw e refl, rw e refl)

-- ---- one word of a level

module _ (f : Form) (us : List Use) (o : Option Use) (placed : Bool) where
  c : List Rule
  c = built_rules f

  pub value_joined_turn : (w name v : Bytes) → bytes_eq w dashes ≡ false → long_of w ≡ Some (name, Some v) → arg_by_long (built_rules f) name ≡ Some (taker name (Some name) None)
      → turn_fault (built_shape f) [] (resting us o placed) w ≡ or_else
      (or_else (settle_fault (built_rules f) false (held us o)) (use_fault false (taker name (Some name) None) (v ∷ []) (settled (built_rules f) (held us o)).rows)) []
  value_joined_turn w name v isnt is found = rw (isnt, is, found) refl

  pub value_joined_walk : (w name v : Bytes) → bytes_eq w dashes ≡ false → long_of w ≡ Some (name, Some v) → arg_by_long (built_rules f) name ≡ Some (taker name (Some name) None)
      → walked (built_rules f) [] (resting us o placed) w ≡ record (resting us None placed)
      { held = record { rows = used (taker name (Some name) None) (v ∷ []) (settled (built_rules f) (held us o)).rows; pending = None; skip = 0 } }
  unfolding walked
  value_joined_walk w name v isnt is found = rw (isnt, is, found) refl

  pub value_behind_turn : (w name : Bytes) → bytes_eq w dashes ≡ false → long_of w ≡ Some (name, None) → arg_by_long (built_rules f) name ≡ Some (taker name (Some name) None)
      → turn_fault (built_shape f) [] (resting us o placed) w ≡ or_else (settle_fault (built_rules f) false (held us o)) []
  value_behind_turn w name isnt is found = rw (isnt, is, found) refl

  pub value_behind_walk : (w name : Bytes) → bytes_eq w dashes ≡ false → long_of w ≡ Some (name, None) → arg_by_long (built_rules f) name ≡ Some (taker name (Some name) None)
      → walked (built_rules f) [] (resting us o placed) w ≡ record (waiting us name placed) { held = record (settled (built_rules f) (held us o)) { pending = Some (name, []) } }
  unfolding walked
  value_behind_walk w name isnt is found = rw (isnt, is, found) refl

  pub flag_turn : (w name : Bytes) → bytes_eq w dashes ≡ false → long_of w ≡ Some (name, None) → arg_by_long (built_rules f) name ≡ Some (flagger name)
      → turn_fault (built_shape f) [] (resting us o placed) w ≡ or_else
      (or_else (settle_fault (built_rules f) false (held us o)) (use_fault false (flagger name) [] (settled (built_rules f) (held us o)).rows)) []
  flag_turn w name isnt is found = rw (isnt, is, found) refl

  pub flag_walk : (w name : Bytes) → bytes_eq w dashes ≡ false → long_of w ≡ Some (name, None) → arg_by_long (built_rules f) name ≡ Some (flagger name)
      → walked (built_rules f) [] (resting us o placed) w ≡ record (resting us None placed)
      { held = record { rows = used (flagger name) [] (settled (built_rules f) (held us o)).rows; pending = None; skip = 0 } }
  unfolding walked
  flag_walk w name isnt is found = rw (isnt, is, found) refl

  pub flag_with_value : (w name v : Bytes) → bytes_eq w dashes ≡ false → long_of w ≡ Some (name, Some v) → arg_by_long (built_rules f) name ≡ Some (flagger name)
      → turn_fault (built_shape f) [] (resting us o placed) w ≡ kind.TooManyValues ∷ []
  flag_with_value w name v isnt is found = rw (isnt, is, found) refl

  pub unknown_turn : (w name : Bytes) (v : Option Bytes) → bytes_eq w dashes ≡ false → long_of w ≡ Some (name, v) → arg_by_long (built_rules f) name ≡ None
      → turn_fault (built_shape f) [] (resting us o placed) w ≡ kind.UnknownArgument ∷ []
  unknown_turn w name v isnt is found = rw (isnt, is, found) refl

  pub dashes_walk : walked (built_rules f) [] (resting us o placed) dashes ≡ trailing us o placed
  unfolding walked
  dashes_walk = refl

  -- a word that is no option, with no place left for it
  pub stray_turn : (w : Bytes) → begins_with_dash w ≡ false → arg_by_index (built_rules f) (place placed) ≡ None → turn_fault (built_shape f) [] (resting us o placed) w ≡ kind.UnknownArgument ∷ []
  stray_turn w plain none = let p = plain_is_no_dash w plain in rw (p.0, p.1, p.2, none) refl

  pub stray_behind : (w : Bytes) → arg_by_index (built_rules f) (place placed) ≡ None → turn_fault (built_shape f) [] (trailing us o placed) w ≡ kind.UnknownArgument ∷ []
  stray_behind w none = rw none refl

and_false : (b : Bool) → (b && false) ≡ false
and_false true = refl
and_false false = refl

-- the place that is next: there is none, or it is the one positional word's
pub at_place : (f : Form) (placed : Bool) → (arg_by_index (built_rules f) (place placed) ≡ None)
    ⊎ ((id : Bytes) × (f.word ≡ Some id) × (placed ≡ false) × (arg_by_index (built_rules f) (place placed) ≡ Some (taker id None (Some 1))))
at_place f true = inl (by_index f 2 ∙ second_place f.word)
at_place f false = go f.word refl
  where
    go : (w : Option Bytes) → f.word ≡ w → (arg_by_index (built_rules f) 1 ≡ None)
        ⊎ ((id : Bytes) × (f.word ≡ Some id) × (false ≡ false) × (arg_by_index (built_rules f) 1 ≡ Some (taker id None (Some 1))))
    go None e = inl (by_index f 1 ∙ ap (λ w. arg_by_index (built_word w) 1) e)
    go (Some id) e = inr (id, e, refl, by_index f 1 ∙ ap (λ w. arg_by_index (built_word w) 1) e)

module _ (f : Form) (us : List Use) (o : Option Use) (id : Bytes) (first : arg_by_index (built_rules f) 1 ≡ Some (taker id None (Some 1))) where
  -- a word that is no option, at the one place
  pub placed_turn : (w : Bytes) → begins_with_dash w ≡ false → turn_fault (built_shape f) [] (resting us o false) w ≡ settle_fault (built_rules f) false (held us o)
  placed_turn w plain = let p = plain_is_no_dash w plain in rw (p.0, p.1, p.2, first, and_false (is_pending (taker id None (Some 1)) (pending o))) refl

  pub placed_walk : (w : Bytes) → begins_with_dash w ≡ false → walked (built_rules f) [] (resting us o false) w ≡ record (resting us None true)
      { held = record (settled (built_rules f) (held us o)) { pending = Some (id, w ∷ []) } }
  unfolding walked
  placed_walk w plain = let p = plain_is_no_dash w plain in rw (p.0, p.1, p.2, first, and_false (is_pending (taker id None (Some 1)) (pending o))) refl

  pub placed_turn_behind : (w : Bytes) → turn_fault (built_shape f) [] (trailing us o false) w ≡ settle_fault (built_rules f) false (held us o)
  placed_turn_behind w = rw (first, and_false (is_pending (taker id None (Some 1)) (pending o))) refl

  pub placed_walk_behind : (w : Bytes) → walked (built_rules f) [] (trailing us o false) w ≡ record (trailing us None true)
      { held = record (settled (built_rules f) (held us o)) { pending = Some (id, w ∷ []) } }
  unfolding walked
  placed_walk_behind w = rw (first, and_false (is_pending (taker id None (Some 1)) (pending o))) refl

module _ (f : Form) (us : List Use) (name : Bytes) (placed : Bool) (known : arg_by_id (built_rules f) name ≡ Some (taker name (Some name) None)) where
  never : settle_fault (built_rules f) false (record { rows = rows_of_uses us; pending = Some (name, []); skip = 0 }) ≡ kind.InvalidValue ∷ []
  never = never_settles f us name (Some name) None known

  pub value_turn : (w : Bytes) → begins_with_dash w ≡ false → turn_fault (built_shape f) [] (waiting us name placed) w ≡ []
  value_turn w plain = let p = plain_is_no_dash w plain in rw (p.0, p.1, p.2) refl

  pub value_walk : (w : Bytes) → begins_with_dash w ≡ false → walked (built_rules f) [] (waiting us name placed) w ≡ resting us (Some (record { id = name; value = w })) placed
  unfolding walked
  value_walk w plain = let p = plain_is_no_dash w plain in rw (p.0, p.1, p.2, known, (bytes_eq-Decides name name).1 refl) refl

  -- what `--` leaves of an option that waits for its value
  abbrev pub doomed : Walk
  doomed = record (waiting us name placed) { is_trailing = true }

  pub doomed_walk : walked (built_rules f) [] (waiting us name placed) dashes ≡ doomed
  unfolding walked
  doomed_walk = refl

  pub doomed_turn : (w : Bytes) → turn_fault (built_shape f) [] doomed w ≡ [] → ⊥
  doomed_turn w e = ⊎_elim
      (λ none. let stray : turn_fault (built_shape f) [] doomed w ≡ kind.UnknownArgument ∷ [] = rw none refl in cc)
      (λ some. let late : turn_fault (built_shape f) [] doomed w ≡ kind.InvalidValue ∷ [] = rw (some.3, and_false (bytes_eq name some.0), never) refl in cc)
      (at_place f placed)

  -- an option in the place of a value
  pub no_option_there : (w other : Bytes) (v : Option Bytes) → bytes_eq w dashes ≡ false → long_of w ≡ Some (other, v) → turn_fault (built_shape f) [] (waiting us name placed) w ≡ [] → ⊥
  no_option_there w other v isnt is e = go (find (λ k. bytes_eq k.name other) f.choices) refl
    where
      go : (found : Option CommandOption) → find (λ k. bytes_eq k.name other) f.choices ≡ found → ⊥
      go None i =
          let none : arg_by_long (built_rules f) other ≡ None = by_long f other ∙ ap (option_map built_choice) i in
          let fault : turn_fault (built_shape f) [] (waiting us name placed) w ≡ kind.UnknownArgument ∷ [] = rw (isnt, is, none) refl in cc
      go (Some k) i = by_kind v k.is_valued refl is
        where
          found_is : arg_by_long (built_rules f) other ≡ Some (built_choice k)
          found_is = by_long f other ∙ ap (option_map built_choice) i

          by_kind : (value : Option Bytes) (t : Bool) → k.is_valued ≡ t → long_of w ≡ Some (other, value) → ⊥
          by_kind None true t l =
              let found : arg_by_long (built_rules f) other ≡ Some (taker k.name (Some k.name) None) = found_is ∙ rw t refl in
              let fault : turn_fault (built_shape f) [] (waiting us name placed) w ≡ kind.InvalidValue ∷ [] = rw (isnt, l, found, never) refl in cc
          by_kind (Some x) true t l =
              let found : arg_by_long (built_rules f) other ≡ Some (taker k.name (Some k.name) None) = found_is ∙ rw t refl in
              let fault : turn_fault (built_shape f) [] (waiting us name placed) w ≡ kind.InvalidValue ∷ [] = rw (isnt, l, found, never) refl in cc
          by_kind None false t l =
              let found : arg_by_long (built_rules f) other ≡ Some (flagger k.name) = found_is ∙ rw t refl in
              let fault : turn_fault (built_shape f) [] (waiting us name placed) w ≡ kind.InvalidValue ∷ [] = rw (isnt, l, found, never) refl in cc
          by_kind (Some x) false t l =
              let found : arg_by_long (built_rules f) other ≡ Some (flagger k.name) = found_is ∙ rw t refl in
              let fault : turn_fault (built_shape f) [] (waiting us name placed) w ≡ kind.TooManyValues ∷ [] = rw (isnt, l, found) refl in cc
