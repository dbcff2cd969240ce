-- The reader at each place: what it has read, and what it makes of a token there.
use Rattle.std.proofs.Common.{◌≡◌, ℕ, List, [], ◌∷◌, ◌++◌, codes, length, map, Bool, true, false, ◌&&◌, ◌==◌, nat_le, if◌then◌else◌, Option, Some, None, Ok, refl, sym, ap, ◌∙◌, subst, append_assoc}
use Rattle.std.proofs.Common.{append-nil}
use Rattle.std.proofs.lemmas.Grind.{flat_map-append}
use Rattle.std.proofs.lemmas.List.{map-append, length-map}
use Rattle.std.specs.List.{list_all}
use Rattle.std.proofs.lemmas.List.Folds.{list_all-append}
use Rattle.std.specs.Option.{option_map}
use Rattle.rs_model.specs.Data.{Names_data}
use Rattle.rs_model.specs.declared.graph.Arm.{Arm}
use Rattle.rs_model.specs.declared.graph.Label.{Label}
use Rattle.rs_model.specs.declared.graph.Role.{Role}
use Rattle.rs_model.specs.declared.limits.TheConstants.{MOST_LABELS, MOST_STATES}
use Rattle.rs_model.specs.declared.machines.State.{State}
use Rattle.rs_model.specs.declared.values.Sort.{Sort}
use Rattle.rs_bodies.specs.declared.dialects.Mark.{Mark}
use Rattle.rs_text.specs.ArmCuts.{ArmCut, at_label, behind_label, behind_paren, behind_sort, behind_head}
use Rattle.rs_text.specs.Arms.{sort_or_unit}
use Rattle.rs_text.specs.declared.faults.TextKind.{TextKind}
use Rattle.rs_text.specs.declared.faults.TextKind.TheVariants as kind
use Rattle.rs_text.specs.declared.faults.Wanted.{Wanted}
use Rattle.rs_text.specs.declared.faults.Wanted.TheVariants as wanted
use Rattle.rs_text.specs.Names.{names_with, is_among, place_of, number_or}
use Rattle.rs_text.specs.Readings.{fault, expected}
use Rattle.rs_text.specs.Seen.{plain_text, word_text, sort_named}
use Rattle.rs_text.specs.Signs.{Sign, plain, open_paren, close_paren}
use Rattle.rs_text.specs.declared.messages.MessagePlace.{MessagePlace}
use Rattle.rs_text.specs.declared.messages.MessagePlace.TheVariants as place
use Rattle.rs_text.specs.Messages.{goes_on, label_of_number, feed_label_number, feed_label, feed_paren, feed_sort_word, feed_sort, feed_close}
use Rattle.rs_text.proofs.Naming.{among, not_among, place_of_new, place_stays, grown_append, grown_among, absent_by}
use Rattle.rs_text.proofs.Basics.{both, or_first}
use Rattle.rs_tables.specs.declared.reading.Mode.{Mode}
use Rattle.rs_tables.specs.declared.reading.Mode.TheVariants as mode
use Rattle.rs_tables.specs.Cuts.{RowCut, at_number, behind_number, behind_peer, behind_mark, in_arm, behind_arm, Cut, at_begin, at_role, at_brace, in_rows, at_end, wanted_of, row_wanted}
use Rattle.rs_tables.specs.Data.{Reader_data}
use Rattle.rs_tables.specs.Machines.{labels_of_arms, labels_of_row, labels_of_rows, arm_of_tree, state_of_row}
use Rattle.rs_text.specs.KnownNames.{with_new_labels, role_named, label_named}
use Rattle.rs_bodies.specs.Dialects.{state_by_mark}
use Rattle.rs_tables.specs.Faults.{fault_of_row, fault_of}
use Rattle.rs_text.specs.TokenTests.{number_value}
use Rattle.rs_text.specs.NameFaults.{fault_of_role, fault_of_label}
use Rattle.rs_tables.specs.Feeding.{Fed, start_of_table, feed_table_role, feed_role, feed_number, feed_peer, feed_row, feed_mark, in_message, feed_next, feed_at}
use Rattle.rs_text.specs.TokenTests.{is_end, is_comma, is_open_brace, is_close_brace}
use Rattle.rs_tables.specs.Feeding.{mark_of, is_some_of}
use Rattle.rs_text.specs.TokenTests.{is_keyword}
use Rattle.rs_tables.specs.Trees.{ArmTree, RowTree, end_row, choice_row}
use Rattle.rs_tables.proofs.Grows.{Grown, stays, ends, closes, arm_tree, table_tree, armed, number_step, row_step, mark_step, label_step, sorted_step, next_step, arm_grows, grown_to, role_step, grows}
use Rattle.rs_tables.proofs.Changes.{labels_at}

-- ---- the reader at a place

abbrev arms_before : RowCut → List ArmTree
arms_before at_number = []
arms_before behind_number = []
arms_before (behind_peer p) = []
arms_before (behind_mark p m) = []
arms_before (in_arm p m arms a) = arms
arms_before (behind_arm p m x xs) = x ∷ xs

abbrev arm_mode : Names_data → List ℕ → Mark → ArmCut → Mode
arm_mode names p m at_label = mode.InMessage (role_named names p) m place.Label
arm_mode names p m (behind_label l) = mode.InMessage (role_named names p) m (place.Paren (label_named names l))
arm_mode names p m (behind_paren l) = mode.InMessage (role_named names p) m (place.Sort (label_named names l))
arm_mode names p m (behind_sort l q) = mode.InMessage (role_named names p) m (place.Close (label_named names l) q)
arm_mode names p m (behind_head l q) = mode.AtNext (role_named names p) m (label_named names l) (sort_or_unit q)

abbrev row_mode : Names_data → RowCut → Mode
row_mode names at_number = mode.AtNumber
row_mode names behind_number = mode.BehindNumber
row_mode names (behind_peer p) = mode.BehindPeer (role_named names p)
row_mode names (behind_mark p m) = mode.BehindMark (role_named names p) m
row_mode names (in_arm p m arms a) = arm_mode names p m a
row_mode names (behind_arm p m x xs) = mode.BehindArm (role_named names p) m

abbrev standing : Names_data → List ℕ → List RowTree → List Arm → Mode → Reader_data
standing names x rs arms m = record { roles = names.roles; labels = names.labels; role = role_named names x; states = map (state_of_row names) rs; arms = arms; mode = m }

abbrev arms_of : Names_data → List ArmTree → List Arm
arms_of names arms = map (arm_of_tree names) arms

abbrev stand_in : Names_data → List ℕ → List RowTree → RowCut → Reader_data
stand_in names x rs p = standing names x rs (arms_of names (arms_before p)) (row_mode names p)

abbrev pub stand : Names_data → Cut → Reader_data
stand old at_begin = start_of_table old
stand old at_role = record (start_of_table old) { mode = mode.AtRole }
stand old (at_brace x) = record (start_of_table old) { role = role_named old x; mode = mode.AtBrace }
stand old (in_rows x rs p) = stand_in (with_new_labels old (labels_of_rows rs ++ labels_at p)) x rs p
stand old (at_end t) = standing (with_new_labels old (labels_of_rows t.rows)) t.role t.rows [] mode.Behind

-- what the reader is to make of a token: another one, a fault, or another place
abbrev pub told : Names_data → Option Cut → Option TextKind → Wanted → ℕ → Fed
told old None f w at = expected w at
told old (Some d) None w at = Ok (stand old d)
told old (Some d) (Some k) w at = fault k at

-- ---- steps with no rule

abbrev good : Reader_data → Fed
good r = Ok r

at_if : (old : Names_data) (c : Bool) (d : Cut) (r : Reader_data) (w : Wanted) (at : ℕ) → r ≡ stand old d → (if c then good r else expected w at) ≡ told old (if c then Some d else None) None w at
at_if old true d r w at e = ap good e
at_if old false d r w at e = refl

in_if : (old : Names_data) (x : List ℕ) (rs : List RowTree) (c : Bool) (g : Grown) (r : Reader_data) (w : Wanted) (at : ℕ) → r ≡ stand old (grown_to x rs g)
    → (if c then good r else expected w at) ≡ told old (option_map (grown_to x rs) (if c then Some g else None)) None w at
in_if old x rs true g r w at e = ap good e
in_if old x rs false g r w at e = refl

in_either : (old : Names_data) (x : List ℕ) (rs : List RowTree) (c d : Bool) (g h : Grown) (q r : Reader_data) (w : Wanted) (at : ℕ) → q ≡ stand old (grown_to x rs g)
    → r ≡ stand old (grown_to x rs h)
    → (if c then good q else if d then good r else expected w at) ≡ told old (option_map (grown_to x rs) (if c then Some g else if d then Some h else None)) None w at
in_either old x rs true d g h q r w at e f = ap good e
in_either old x rs false d g h q r w at e f = in_if old x rs d h r w at f

-- ---- arms

-- with these labels before, and these arms read
abbrev with_arms : Names_data → List ℕ → List RowTree → List ℕ → Mark → List (List ℕ) → List ArmTree → Reader_data
with_arms old x rs p m ls arms = let names = with_new_labels old (labels_of_rows rs ++ ls) in standing names x rs (arms_of names arms) (mode.BehindArm (role_named old p) m)

-- the same with one more arm
abbrev with_arm : Names_data → List ℕ → List RowTree → List ℕ → Mark → List (List ℕ) → List ArmTree → ArmTree → Reader_data
with_arm old x rs p m ls arms a =
    let names = with_new_labels old (labels_of_rows rs ++ ls) in standing names x rs (arms_of names arms ++ arm_of_tree names a ∷ []) (mode.BehindArm (role_named old p) m)

arm_more : (old : Names_data) (x : List ℕ) (rs : List RowTree) (p : List ℕ) (m : Mark) (ls : List (List ℕ)) (arms : List ArmTree) (a : ArmTree)
    → with_arm old x rs p m ls arms a ≡ with_arms old x rs p m ls (arms ++ a ∷ [])
arm_more old x rs p m ls arms a =
    let names : Names_data = with_new_labels old (labels_of_rows rs ++ ls) in
    ap (λ z. standing names x rs z (mode.BehindArm (role_named old p) m)) (sym (map-append (arm_of_tree names) arms (a ∷ [])))

label_names : (xs ys : List ArmTree) → labels_of_arms (xs ++ ys) ≡ labels_of_arms xs ++ labels_of_arms ys
label_names xs ys = map-append (λ (a : ArmTree). a.label) xs ys

armed_stands : (old : Names_data) (x : List ℕ) (rs : List RowTree) (p : List ℕ) (m : Mark) (arms : List ArmTree) (a : ArmTree)
    → with_arm old x rs p m (labels_of_arms arms ++ a.label ∷ []) arms a ≡ stand old (in_rows x rs (armed p m arms a))
armed_stands old x rs p m [] a = refl
armed_stands old x rs p m (y ∷ ys) a =
    ap (λ z. with_arm old x rs p m z (y ∷ ys) a) (sym (label_names (y ∷ ys) (a ∷ []))) ∙ arm_more old x rs p m (labels_of_arms ((y ∷ ys) ++ a ∷ [])) (y ∷ ys) a

-- ---- rows

abbrev with_rows : Names_data → List ℕ → List RowTree → List (List ℕ) → RowTree → Reader_data
with_rows old x rs ls r =
    let names = with_new_labels old ls in
    record { roles = names.roles; labels = names.labels; role = role_named names x; states = map (state_of_row names) rs ++ state_of_row names r ∷ []; arms = []; mode = mode.AtNumber }

row_labels : (rs : List RowTree) (r : RowTree) → labels_of_rows rs ++ labels_of_row r ≡ labels_of_rows (rs ++ r ∷ []) ++ []
row_labels rs r = sym (append-nil (labels_of_rows (rs ++ r ∷ [])) ∙ flat_map-append labels_of_row rs (r ∷ []) ∙ ap (λ z. labels_of_rows rs ++ z) (append-nil (labels_of_row r)))

ended_stands : (old : Names_data) (x : List ℕ) (rs : List RowTree) (r : RowTree) → with_rows old x rs (labels_of_rows rs ++ labels_of_row r) r ≡ stand old (in_rows x (rs ++ r ∷ []) at_number)
ended_stands old x rs r =
    let names : Names_data = with_new_labels old (labels_of_rows (rs ++ r ∷ []) ++ []) in
    ap (λ z. with_rows old x rs z r) (row_labels rs r)
    ∙ ap (λ z. record { roles = names.roles; labels = names.labels; role = role_named names x; states = z; arms = []; mode = mode.AtNumber }) (sym (map-append (state_of_row names) rs (r ∷ [])))

closed_stands : (old : Names_data) (x : List ℕ) (rs : List RowTree) → record (stand old (in_rows x rs at_number)) { mode = mode.Behind } ≡ stand old (at_end (table_tree x rs))
closed_stands old x rs = ap (λ z. standing (with_new_labels old z) x rs [] mode.Behind) (append-nil (labels_of_rows rs))

-- ---- a new label changes none that was there

abbrev pub Known : List (List ℕ) → List (List ℕ) → Type 0
Known names xs = list_all (λ x. is_among x names) xs ≡ true

here : (names : List (List ℕ)) (x : List ℕ) (b : Bool) → is_among x names ≡ b → is_among x (if b then names else names ++ x ∷ []) ≡ true
here names x true e = e
here names x false e = among (names ++ x ∷ []) x 0 (length names) (place_of_new names x (absent_by (place_of x names) x names refl e))

stays_among : (names xs : List (List ℕ)) (x : List ℕ) → is_among x names ≡ true → is_among x (names_with names xs) ≡ true
stays_among names xs x h = grown_among xs names x ∙ or_first (is_among x names) (is_among x xs) h

pub grown_known : (xs names : List (List ℕ)) → Known (names_with names xs) xs
grown_known [] names = refl
grown_known (x ∷ xs) names =
    let first : List (List ℕ) = if is_among x names then names else names ++ x ∷ [] in
    let a : is_among x (names_with first xs) ≡ true = stays_among first xs x (here names x (is_among x names) refl) in
    ap (λ z. z && list_all (λ y. is_among y (names_with first xs)) xs) a ∙ grown_known xs first

pub known_parts : (names xs ys : List (List ℕ)) → Known names (xs ++ ys) → Known names xs × Known names ys
known_parts names xs ys h = both (list_all (λ x. is_among x names) xs) (list_all (λ x. is_among x names) ys) (sym (list_all-append (λ x. is_among x names) xs ys) ∙ h)

-- names with these labels
abbrev having : Names_data → List (List ℕ) → Names_data
having old labels = record { roles = old.roles; labels = labels }

number_kept : (labels : List (List ℕ)) (w x : List ℕ) (o : Option ℕ) → place_of x labels ≡ o → is_among x labels ≡ true → number_or (place_of x (labels ++ w ∷ [])) ≡ number_or (place_of x labels)
number_kept labels w x None e h = absurd (cc (sym h ∙ not_among labels x 0 e))
number_kept labels w x (Some n) e h = ap number_or (place_stays labels (w ∷ []) x n e) ∙ sym (ap number_or e)

label_kept : (old : Names_data) (labels : List (List ℕ)) (w x : List ℕ) → is_among x labels ≡ true → label_named (having old (labels ++ w ∷ [])) x ≡ label_named (having old labels) x
label_kept old labels w x h = let f : ℕ → Label = λ n. record { 0 = n } in ap f (number_kept labels w x (place_of x labels) refl h)

arms_kept : (old : Names_data) (labels : List (List ℕ)) (w : List ℕ) (arms : List ArmTree) → Known labels (labels_of_arms arms)
    → arms_of (having old (labels ++ w ∷ [])) arms ≡ arms_of (having old labels) arms
arms_kept old labels w [] h = refl
arms_kept old labels w (a ∷ arms) h =
    let k = both (is_among a.label labels) (list_all (λ x. is_among x labels) (labels_of_arms arms)) h in
    let f : Label → Arm = λ l. record { label = l; sort = sort_or_unit a.sort; next = a.next } in
    ap (λ z. f z ∷ arms_of (having old (labels ++ w ∷ [])) arms) (label_kept old labels w a.label k.0) ∙ ap (λ z. arm_of_tree (having old labels) a ∷ z) (arms_kept old labels w arms k.1)

row_same : (old : Names_data) (labels : List (List ℕ)) (w : List ℕ) (r : RowTree) → Known labels (labels_of_row r) → state_of_row (having old (labels ++ w ∷ [])) r ≡ state_of_row (having old labels) r
row_same old labels w end_row h = refl
row_same old labels w (choice_row p m x xs) h = ap (λ z. state_by_mark m (role_named old p) z) (arms_kept old labels w (x ∷ xs) h)

rows_kept : (old : Names_data) (labels : List (List ℕ)) (w : List ℕ) (rs : List RowTree) → Known labels (labels_of_rows rs)
    → map (state_of_row (having old (labels ++ w ∷ []))) rs ≡ map (state_of_row (having old labels)) rs
rows_kept old labels w [] h = refl
rows_kept old labels w (r ∷ rs) h =
    let k = known_parts labels (labels_of_row r) (labels_of_rows rs) h in
    ap (λ z. z ∷ map (state_of_row (having old (labels ++ w ∷ []))) rs) (row_same old labels w r k.0) ∙ ap (λ z. state_of_row (having old labels) r ∷ z) (rows_kept old labels w rs k.1)

-- ---- labels

-- the reader behind a label, where the names have these labels
abbrev at_label_of : Names_data → List ℕ → List RowTree → List ℕ → Mark → List ArmTree → List ℕ → List (List ℕ) → Reader_data
at_label_of old x rs p m arms w labels = standing (having old labels) x rs (arms_of (having old labels) arms) (mode.InMessage (role_named old p) m (place.Paren (label_named (having old labels) w)))

-- the labels with this one
labels_then : (old : Names_data) (rs : List RowTree) (arms : List ArmTree) (w : List ℕ)
    → names_with old.labels (labels_of_rows rs ++ (labels_of_arms arms ++ w ∷ [])) ≡ names_with (names_with old.labels (labels_of_rows rs ++ labels_of_arms arms)) (w ∷ [])
labels_then old rs arms w =
    ap (names_with old.labels) (sym (append_assoc (labels_of_rows rs) (labels_of_arms arms) (w ∷ []))) ∙ grown_append (labels_of_rows rs ++ labels_of_arms arms) (w ∷ []) old.labels

old_label : (old : Names_data) (rs : List RowTree) (arms : List ArmTree) (w : List ℕ) → is_among w (names_with old.labels (labels_of_rows rs ++ labels_of_arms arms)) ≡ true
    → names_with old.labels (labels_of_rows rs ++ (labels_of_arms arms ++ w ∷ [])) ≡ names_with old.labels (labels_of_rows rs ++ labels_of_arms arms)
old_label old rs arms w h =
    let labels : List (List ℕ) = names_with old.labels (labels_of_rows rs ++ labels_of_arms arms) in labels_then old rs arms w ∙ ap (λ z. if z then labels else labels ++ w ∷ []) h

new_label : (old : Names_data) (rs : List RowTree) (arms : List ArmTree) (w : List ℕ) → is_among w (names_with old.labels (labels_of_rows rs ++ labels_of_arms arms)) ≡ false
    → names_with old.labels (labels_of_rows rs ++ (labels_of_arms arms ++ w ∷ [])) ≡ names_with old.labels (labels_of_rows rs ++ labels_of_arms arms) ++ w ∷ []
new_label old rs arms w h =
    let labels : List (List ℕ) = names_with old.labels (labels_of_rows rs ++ labels_of_arms arms) in labels_then old rs arms w ∙ ap (λ z. if z then labels else labels ++ w ∷ []) h

new_label_stands : (old : Names_data) (x : List ℕ) (rs : List RowTree) (p : List ℕ) (m : Mark) (arms : List ArmTree) (w : List ℕ) (labels : List (List ℕ))
    → labels ≡ names_with old.labels (labels_of_rows rs ++ labels_of_arms arms) → place_of w labels ≡ None
    → standing (having old labels) x rs (arms_of (having old labels) arms) (mode.InMessage (role_named old p) m (place.Paren (label_of_number (length labels)))) ≡ record
    (at_label_of old x rs p m arms w (labels ++ w ∷ [])) { labels = labels }
new_label_stands old x rs p m arms w labels e none =
    let known : Known labels (labels_of_rows rs ++ labels_of_arms arms)
    = subst (λ (z : List (List ℕ)). Known z (labels_of_rows rs ++ labels_of_arms arms)) (sym e) (grown_known (labels_of_rows rs ++ labels_of_arms arms) old.labels) in
    let parts = known_parts labels (labels_of_rows rs) (labels_of_arms arms) known in
    let number : label_of_number (length labels) ≡ label_named (having old (labels ++ w ∷ [])) w = ap (λ z. label_of_number (number_or z)) (sym (place_of_new labels w none)) in
    let shape : List State → List Arm → Label → Reader_data
    = λ states these l. record {
      roles = old.roles;
      labels = labels;
      role = role_named old x;
      states = states;
      arms = these;
      mode = mode.InMessage (role_named old p) m (place.Paren l);
    } in
    ap (λ z. shape z (arms_of (having old labels) arms) (label_of_number (length labels))) (sym (rows_kept old labels w rs parts.0))
    ∙ ap (λ z. shape (map (state_of_row (having old (labels ++ w ∷ []))) rs) z (label_of_number (length labels))) (sym (arms_kept old labels w arms parts.1))
    ∙ ap (λ z. shape (map (state_of_row (having old (labels ++ w ∷ []))) rs) (arms_of (having old (labels ++ w ∷ [])) arms) z) number

label_at : (old : Names_data) (x : List ℕ) (rs : List RowTree) (p : List ℕ) (m : Mark) (arms : List ArmTree) (w : List ℕ) (labels : List (List ℕ))
    → names_with old.labels (labels_of_rows rs ++ (labels_of_arms arms ++ w ∷ [])) ≡ labels
    → at_label_of old x rs p m arms w labels ≡ stand old (in_rows x rs (in_arm p m arms (behind_label w)))
label_at old x rs p m arms w labels e = ap (at_label_of old x rs p m arms w) (sym e)

label_room : (old : Names_data) (p : Role) (m : Mark) (at : ℕ) (full : Bool) (d : Cut) (labels : List (List ℕ)) (x : MessagePlace) (r : Reader_data)
    → record r { labels = labels; mode = mode.InMessage p m x } ≡ stand old d
    → in_message p m (if full then fault kind.TooManyLabels at else Ok (goes_on labels x)) r ≡ told old (Some d) (if full then Some kind.TooManyLabels else None) wanted.Label at
label_room old p m at true d labels x r e = refl
label_room old p m at false d labels x r e = ap good e

label_told : (old : Names_data) (x : List ℕ) (rs : List RowTree) (p : List ℕ) (m : Mark) (arms : List ArmTree) (w : List ℕ) (at : ℕ) (o : Option ℕ)
    → place_of w (names_with old.labels (labels_of_rows rs ++ labels_of_arms arms)) ≡ o
    → in_message (role_named old p) m (feed_label_number o w at (names_with old.labels (labels_of_rows rs ++ labels_of_arms arms)))
    (stand old (in_rows x rs (in_arm p m arms at_label))) ≡ told old (Some (in_rows x rs (in_arm p m arms (behind_label w))))
    (fault_of_label (names_with old.labels (labels_of_rows rs ++ labels_of_arms arms)) (Some w)) wanted.Label at
label_told old x rs p m arms w at (Some n) e =
    let labels : List (List ℕ) = names_with old.labels (labels_of_rows rs ++ labels_of_arms arms) in
    let there : is_among w labels ≡ true = among labels w 0 n e in
    let d : Cut = in_rows x rs (in_arm p m arms (behind_label w)) in
    ap (λ z. good (standing (having old labels) x rs (arms_of (having old labels) arms) (mode.InMessage (role_named old p) m (place.Paren (label_of_number (number_or z)))))) (sym e)
    ∙ ap good (label_at old x rs p m arms w labels (old_label old rs arms w there))
    ∙ ap (λ z. told old (Some d) (if z then None else if nat_le MOST_LABELS (length labels) then Some kind.TooManyLabels else None) wanted.Label at) (sym there)
label_told old x rs p m arms w at None e =
    let labels : List (List ℕ) = names_with old.labels (labels_of_rows rs ++ labels_of_arms arms) in
    let absent : is_among w labels ≡ false = not_among labels w 0 e in
    let d : Cut = in_rows x rs (in_arm p m arms (behind_label w)) in
    label_room old (role_named old p) m at (nat_le MOST_LABELS (length labels)) d (labels ++ w ∷ []) (place.Paren (label_of_number (length labels)))
    (stand old (in_rows x rs (in_arm p m arms at_label)))
    (ap (λ (z : Reader_data). record z { labels = labels ++ w ∷ [] }) (new_label_stands old x rs p m arms w labels refl e)
    ∙ label_at old x rs p m arms w (labels ++ w ∷ []) (new_label old rs arms w absent))
    ∙ ap (λ z. told old (Some d) (if z then None else if nat_le MOST_LABELS (length labels) then Some kind.TooManyLabels else None) wanted.Label at) (sym absent)

labels_told : (old : Names_data) (x : List ℕ) (rs : List RowTree) (p : List ℕ) (m : Mark) (arms : List ArmTree) (at : ℕ) (o : Option (List ℕ))
    → in_message (role_named old p) m (feed_label wanted.Label o at (names_with old.labels (labels_of_rows rs ++ labels_of_arms arms)))
    (stand old (in_rows x rs (in_arm p m arms at_label))) ≡ told old (option_map (grown_to x rs) (label_step p m arms o))
    (fault_of_label (names_with old.labels (labels_of_rows rs ++ labels_of_arms arms)) o) wanted.Label at
labels_told old x rs p m arms at None = refl
labels_told old x rs p m arms at (Some w) = label_told old x rs p m arms w at (place_of w (names_with old.labels (labels_of_rows rs ++ labels_of_arms arms))) refl

-- ---- roles

role_there : (old : Names_data) (w : List ℕ) (at : ℕ) (d : Cut) (v : Wanted) (o : Option ℕ) (f : Role → Reader_data) → f (role_named old w) ≡ stand old d → place_of w old.roles ≡ o → (r : Fed)
    → ((n : ℕ) → o ≡ Some n → r ≡ good (f (record { 0 = n }))) → (o ≡ None → r ≡ fault kind.UnknownRole at) → r ≡ told old (Some d) (fault_of_role old (Some w)) v at
role_there old w at d v (Some n) f e h r g k =
    let role : ℕ → Role = λ n. record { 0 = n } in
    g n refl ∙ ap (λ z. good (f (role (number_or z)))) (sym h) ∙ ap good e ∙ ap (λ z. told old (Some d) (if z then None else Some kind.UnknownRole) v at) (sym (among old.roles w 0 n h))
role_there old w at d v None f e h r g k = k refl ∙ ap (λ z. told old (Some d) (if z then None else Some kind.UnknownRole) v at) (sym (not_among old.roles w 0 h))

own_told : (old : Names_data) (at : ℕ) (o : Option (List ℕ)) → feed_role o at (stand old at_role) ≡ told old (role_step o) (fault_of_role old o) wanted.Role at
own_told old at None = refl
own_told old at (Some w) =
    role_there old w at (at_brace w) wanted.Role (place_of w old.roles) (λ role. record (start_of_table old) { role = role; mode = mode.AtBrace }) refl refl
    (feed_table_role (place_of w old.roles) at (stand old at_role))
    (λ n e. ap (λ z. feed_table_role z at (stand old at_role)) e) (λ e. ap (λ z. feed_table_role z at (stand old at_role)) e)

peer_told : (old : Names_data) (x : List ℕ) (rs : List RowTree) (at : ℕ) (c : Bool) (o : Option (List ℕ))
    → feed_row o c at (stand old (in_rows x rs behind_number)) ≡ told old (option_map (grown_to x rs) (row_step o c)) (fault_of_role old o) wanted.RoleOrEnd at
peer_told old x rs at c (Some w) =
    let r : Reader_data = stand old (in_rows x rs behind_number) in
    role_there old w at (in_rows x rs (behind_peer w)) wanted.RoleOrEnd (place_of w old.roles) (λ role. record r { mode = mode.BehindPeer role }) refl refl
    (feed_peer (place_of w old.roles) at r)
    (λ n e. ap (λ z. feed_peer z at r) e) (λ e. ap (λ z. feed_peer z at r) e)
peer_told old x rs at c None = in_if old x rs c (ends end_row) (with_rows old x rs (labels_of_rows rs ++ []) end_row) wanted.RoleOrEnd at (ended_stands old x rs end_row)

-- ---- the other steps

count_same : (rs : List RowTree) (old : Names_data) (x : List ℕ) → length (stand old (in_rows x rs at_number)).states ≡ length rs
count_same rs old x = length-map rs (state_of_row (with_new_labels old (labels_of_rows rs ++ [])))

wanted_same : (f : RowTree → State) (rs : List RowTree) → row_wanted (map f rs) ≡ row_wanted rs
wanted_same f [] = refl
wanted_same f (r ∷ rs) = refl

some_same : (f : RowTree → State) (rs : List RowTree) → is_some_of (map f rs) ≡ is_some_of rs
some_same f [] = refl
some_same f (r ∷ rs) = refl

number_if : (old : Names_data) (x : List ℕ) (rs : List RowTree) (at : ℕ) (right full : Bool) (r : Reader_data) (w : Wanted) → r ≡ stand old (in_rows x rs behind_number)
    → (if right then (if full then fault kind.TooManyNodes at else good r) else expected w at) ≡ told old (option_map (grown_to x rs) (if right then Some (stays behind_number) else None))
    (if right then (if full then Some kind.TooManyNodes else None) else None) w at
number_if old x rs at true true r w e = refl
number_if old x rs at true false r w e = ap good e
number_if old x rs at false full r w e = refl

number_told : (old : Names_data) (x : List ℕ) (rs : List RowTree) (at : ℕ) (c : Bool) (o : Option ℕ)
    → feed_number o c at (stand old (in_rows x rs at_number)) ≡ told old (option_map (grown_to x rs) (number_step rs o c)) (fault_of_row (length rs) o) (row_wanted rs) at
number_told old x rs at c (Some n) =
    let r : Reader_data = stand old (in_rows x rs at_number) in
    let q : Reader_data = stand old (in_rows x rs behind_number) in
    let f : RowTree → State = state_of_row (with_new_labels old (labels_of_rows rs ++ [])) in
    ap (λ z. if n == z then (if nat_le MOST_STATES z then fault kind.TooManyNodes at else good q) else expected (row_wanted r.states) at) (count_same rs old x)
    ∙ ap (λ z. if n == length rs then (if nat_le MOST_STATES (length rs) then fault kind.TooManyNodes at else good q) else expected z at) (wanted_same f rs)
    ∙ number_if old x rs at (n == length rs) (nat_le MOST_STATES (length rs)) q (row_wanted rs) refl
number_told old x rs at c None =
    let r : Reader_data = record (stand old (in_rows x rs at_number)) { mode = mode.Behind } in
    let f : RowTree → State = state_of_row (with_new_labels old (labels_of_rows rs ++ [])) in
    ap (λ z. if c && z then good r else expected (row_wanted (map f rs)) at) (some_same f rs)
    ∙ ap (λ z. if c && is_some_of rs then good r else expected z at) (wanted_same f rs)
    ∙ in_if old x rs (c && is_some_of rs) closes r (row_wanted rs) at (closed_stands old x rs)

mark_told : (old : Names_data) (x : List ℕ) (rs : List RowTree) (p : List ℕ) (at : ℕ) (o : Option Mark)
    → feed_mark (role_named old p) o at (stand old (in_rows x rs (behind_peer p))) ≡ told old (option_map (grown_to x rs) (mark_step p o)) None wanted.Mark at
mark_told old x rs p at None = refl
mark_told old x rs p at (Some m) = refl

-- the label of the message, where it was read
abbrev label_there : Names_data → List RowTree → List ArmTree → List ℕ → Label
label_there old rs arms l = label_named (with_new_labels old (labels_of_rows rs ++ (labels_of_arms arms ++ l ∷ []))) l

paren_told : (old : Names_data) (x : List ℕ) (rs : List RowTree) (p : List ℕ) (m : Mark) (arms : List ArmTree) (l : List ℕ) (t : Sign) (at : ℕ)
    → let r : Reader_data = stand old (in_rows x rs (in_arm p m arms (behind_label l))) in
    in_message (role_named old p) m (feed_paren (label_there old rs arms l) t at r.labels) r ≡ told old
    (option_map (grown_to x rs) (arm_grows p m arms (behind_label l) t)) None wanted.OpenParen at
paren_told old x rs p m arms l open_paren at = refl
paren_told old x rs p m arms l _ at = refl

sorted_told : (old : Names_data) (x : List ℕ) (rs : List RowTree) (p : List ℕ) (m : Mark) (arms : List ArmTree) (l : List ℕ) (at : ℕ) (o : Option Sort)
    → let r : Reader_data = stand old (in_rows x rs (in_arm p m arms (behind_paren l))) in
    in_message (role_named old p) m (feed_sort_word o (label_there old rs arms l) at r.labels) r ≡ told old (option_map (grown_to x rs) (sorted_step p m arms l o)) None wanted.SortOrCloseParen at
sorted_told old x rs p m arms l at None = refl
sorted_told old x rs p m arms l at (Some q) = refl

sort_told : (old : Names_data) (x : List ℕ) (rs : List RowTree) (p : List ℕ) (m : Mark) (arms : List ArmTree) (l : List ℕ) (t : Sign) (at : ℕ)
    → let r : Reader_data = stand old (in_rows x rs (in_arm p m arms (behind_paren l))) in
    in_message (role_named old p) m (feed_sort (label_there old rs arms l) t at r.labels) r ≡ told old
    (option_map (grown_to x rs) (arm_grows p m arms (behind_paren l) t)) None wanted.SortOrCloseParen at
sort_told old x rs p m arms l (plain w) at = sorted_told old x rs p m arms l at (sort_named w)
sort_told old x rs p m arms l close_paren at = refl
sort_told old x rs p m arms l _ at = refl

close_told : (old : Names_data) (x : List ℕ) (rs : List RowTree) (p : List ℕ) (m : Mark) (arms : List ArmTree) (l : List ℕ) (q : Sort) (t : Sign) (at : ℕ)
    → let r : Reader_data = stand old (in_rows x rs (in_arm p m arms (behind_sort l q))) in
    in_message (role_named old p) m (feed_close (label_there old rs arms l) q t at r.labels) r ≡ told old
    (option_map (grown_to x rs) (arm_grows p m arms (behind_sort l q) t)) None wanted.CloseParen at
close_told old x rs p m arms l q close_paren at = refl
close_told old x rs p m arms l q _ at = refl

next_told : (old : Names_data) (x : List ℕ) (rs : List RowTree) (p : List ℕ) (m : Mark) (arms : List ArmTree) (l : List ℕ) (q : Option Sort) (at : ℕ) (o : Option ℕ)
    → feed_next (role_named old p) m (label_there old rs arms l) (sort_or_unit q) o at (stand old (in_rows x rs (in_arm p m arms (behind_head l q)))) ≡ told old
    (option_map (grown_to x rs) (next_step p m arms l q o)) None wanted.NextState at
next_told old x rs p m arms l q at None = refl
next_told old x rs p m arms l q at (Some n) = ap good (armed_stands old x rs p m arms (arm_tree l q n))

arm_told : (old : Names_data) (x : List ℕ) (rs : List RowTree) (p : List ℕ) (m : Mark) (arms : List ArmTree) (a : ArmCut) (t : Sign) (at : ℕ)
    → let c : Cut = in_rows x rs (in_arm p m arms a) in feed_at (stand old c).mode t at (stand old c) ≡ told old (grows c t) (fault_of old c t) (wanted_of c) at
arm_told old x rs p m arms at_label t at = labels_told old x rs p m arms at (word_text t)
arm_told old x rs p m arms (behind_label l) t at = paren_told old x rs p m arms l t at
arm_told old x rs p m arms (behind_paren l) t at = sort_told old x rs p m arms l t at
arm_told old x rs p m arms (behind_sort l q) t at = close_told old x rs p m arms l q t at
arm_told old x rs p m arms (behind_head l q) t at = next_told old x rs p m arms l q at (number_value t)

row_told : (old : Names_data) (x : List ℕ) (rs : List RowTree) (p : RowCut) (t : Sign) (at : ℕ)
    → let c : Cut = in_rows x rs p in feed_at (stand old c).mode t at (stand old c) ≡ told old (grows c t) (fault_of old c t) (wanted_of c) at
row_told old x rs at_number t at = number_told old x rs at (is_close_brace t) (number_value t)
row_told old x rs behind_number t at = peer_told old x rs at (is_end t) (plain_text t)
row_told old x rs (behind_peer p) t at = mark_told old x rs p at (mark_of t)
row_told old x rs (behind_mark p m) t at = in_if old x rs (is_open_brace t) (stays (in_arm p m [] at_label)) (stand old (in_rows x rs (in_arm p m [] at_label))) wanted.OpenBrace at refl
row_told old x rs (in_arm p m arms a) t at = arm_told old x rs p m arms a t at
row_told old x rs (behind_arm p m y ys) t at =
    in_either old x rs (is_comma t) (is_close_brace t) (stays (in_arm p m (y ∷ ys) at_label)) (ends (choice_row p m y ys)) (stand old (in_rows x rs (in_arm p m (y ∷ ys) at_label)))
    (with_rows old x rs (labels_of_rows rs ++ labels_of_arms (y ∷ ys)) (choice_row p m y ys)) wanted.CommaOrCloseBrace at refl (ended_stands old x rs (choice_row p m y ys))

-- what the reader makes of a token at a place
pub says : (old : Names_data) (c : Cut) (t : Sign) (at : ℕ) → feed_at (stand old c).mode t at (stand old c) ≡ told old (grows c t) (fault_of old c t) (wanted_of c) at
says old at_begin t at = at_if old (is_keyword (codes "table") t) at_role (stand old at_role) wanted.PartOrEnd at refl
says old at_role t at = own_told old at (plain_text t)
says old (at_brace x) t at = at_if old (is_open_brace t) (in_rows x [] at_number) (stand old (in_rows x [] at_number)) wanted.OpenBrace at refl
says old (in_rows x rs p) t at = row_told old x rs p t at
says old (at_end d) t at = refl
