-- The fault that the reader tells is the first one of the text, and what it reads is spelt there.
use Rattle.std.proofs.Common.{◌≡◌, ◌⊎◌, inl, inr, ℕ, ◌≤◌, List, [], ◌∷◌, ◌++◌, length, Bool, true, false, ◌==◌, if◌then◌else◌, Option, Some, None, IfSome, Ok, refl, sym, ap, ◌∙◌, subst}
use Rattle.std.specs.Option.{option_map}
use Rattle.rs_model.specs.Data.{Names_data}
use Rattle.rs_model.specs.declared.limits.TheConstants.{MOST_LABELS}
use Rattle.rs_model.specs.Data.{Machine_data}
use Rattle.rs_bodies.specs.declared.dialects.Mark.{Mark}
use Rattle.rs_text.specs.ArmCuts.{at_label, behind_label, behind_paren, behind_sort, behind_head}
use Rattle.rs_text.specs.declared.faults.TextKind.{TextKind}
use Rattle.rs_text.specs.declared.faults.TextKind.TheVariants as kind
use Rattle.rs_text.specs.declared.faults.Wanted.{Wanted}
use Rattle.rs_text.specs.declared.tokens.FaultKind.{FaultKind}
use Rattle.rs_text.specs.Faults.{kind_of}
use Rattle.rs_text.specs.FirstFaults.{IsWhole, IsClear}
use Rattle.rs_text.specs.Lexemes.{Lexeme, signs_of}
use Rattle.rs_text.specs.Lexing.{Lexed}
use Rattle.rs_text.specs.Readings.{Reading, feed_sign, next_lexeme_of, read_all}
use Rattle.rs_text.specs.Seen.{plain_text, word_text}
use Rattle.rs_text.specs.Signs.{Sign, broken}
use Rattle.rs_text.proofs.Judging as judging
use Rattle.rs_text.proofs.Judging.{Here, IsProper, proper_sign, Judges, Halt, halt, Wholeness, a_faulty, a_whole, wholeness}
use Rattle.rs_tables.specs.Cuts.{RowCut, at_number, behind_number, in_arm, Cut, at_begin, at_role, in_rows, at_end, cut_signs, wanted_of, IsPlace}
use Rattle.rs_tables.specs.Data.{Reader_data}
use Rattle.rs_tables.specs.Machines.{labels_of_arms, labels_of_rows, machine_of_table}
use Rattle.rs_text.specs.Names.{names_with}
use Rattle.rs_tables.specs.Faults.{Begins, IsInTable, StandsAt, IsMisplaced, FaultAt, fault_of_row, fault_of, fault_in_row}
use Rattle.rs_text.specs.TokenTests.{number_value}
use Rattle.rs_text.specs.NameFaults.{fault_of_role, fault_of_label}
use Rattle.rs_tables.specs.Ends.{at_end_stops}
use Rattle.rs_tables.specs.Feeding.{Fed, start_of_table, feed_at, is_read, feeding, names_read}
use Rattle.rs_tables.specs.Spells.{IsFormed, Fits, SpellsTable}
use Rattle.rs_tables.specs.Trees.{ArmTree, RowTree, TableTree}
use Rattle.rs_tables.proofs.Changes.{Change, change}
use Rattle.rs_tables.proofs.Fitting.{FitsSo, fits_first, fits_on, fits_back}
use Rattle.rs_tables.proofs.Grows.{Grown, stays, number_step, row_step, label_step, grown_to, role_step, row_grows, grows, GoesOn, goes_on}
use Rattle.rs_tables.proofs.Labels.{HasLabels, Follows, follows_first, follows_on}
use Rattle.rs_tables.proofs.Paths.{along, path, one_place, completes, stuck, no_further}
use Rattle.rs_tables.proofs.ReadTables.{machine_read}
use Rattle.rs_tables.proofs.Standings.{stand, told, says}
use Rattle.rs_text.proofs.Nexts.{lexed_are}

-- ---- what is known of the reader

-- it stands at a place that has these tokens before it
pub record Stood (old : Names_data) (xs : List Sign) (r : Reader_data) : Type 1 where
  pub place : Cut
  pub right : IsPlace place
  pub signs : cut_signs place ≡ xs
  pub reader_is : r ≡ stand old place
  pub fits : FitsSo old place
  pub follows : Follows old xs r

abbrev pub At : Names_data → List Sign → Sign → Reader_data → Type 1
At old xs t r = Stood old xs r

-- ---- places

unread_in : (old : Names_data) (x : List ℕ) (rs : List RowTree) (p : RowCut) → is_read (stand old (in_rows x rs p)) ≡ false
unread_in old x rs (in_arm p m arms at_label) = refl
unread_in old x rs (in_arm p m arms (behind_label l)) = refl
unread_in old x rs (in_arm p m arms (behind_paren l)) = refl
unread_in old x rs (in_arm p m arms (behind_sort l q)) = refl
unread_in old x rs (in_arm p m arms (behind_head l q)) = refl
unread_in old x rs _ = refl

unread : (old : Names_data) (c : Cut) → IsInTable c → is_read (stand old c) ≡ false
unread old (in_rows x rs p) h = unread_in old x rs p
unread old (at_end t) h = absurd h
unread old _ h = refl

within : (old : Names_data) (c : Cut) → is_read (stand old c) ≡ false → IsInTable c
within old (at_end t) h = absurd (cc h)
within old _ h = tt

end_of : (old : Names_data) (c : Cut) → is_read (stand old c) ≡ true → (tree : TableTree) × (c ≡ at_end tree)
end_of old (at_end t) h = (t, refl)
end_of old (in_rows x rs p) h = absurd (cc (sym (unread_in old x rs p) ∙ h))
end_of old _ h = absurd (cc h)

no_map : (x : List ℕ) (rs : List RowTree) (o : Option Grown) → option_map (grown_to x rs) o ≡ None → o ≡ None
no_map x rs None h = refl
no_map x rs (Some g) h = absurd (cc h)

unfit_role : (old : Names_data) (o : Option (List ℕ)) → role_step o ≡ None → fault_of_role old o ≡ None
unfit_role old None h = refl
unfit_role old (Some w) h = absurd (cc h)

by_test : (b : Bool) (full : Option TextKind) → (if b then Some (stays behind_number) else None) ≡ None → (if b then full else None) ≡ None
by_test true full h = absurd (cc h)
by_test false full h = refl

unfit_label : (labels : List (List ℕ)) (p : List ℕ) (m : Mark) (arms : List ArmTree) (o : Option (List ℕ)) → label_step p m arms o ≡ None → fault_of_label labels o ≡ None
unfit_label labels p m arms None h = refl
unfit_label labels p m arms (Some w) h = absurd (cc h)

unfit_number : (rs : List RowTree) (o : Option ℕ) (c : Bool) → number_step rs o c ≡ None → fault_of_row (length rs) o ≡ None
unfit_number rs None c h = refl
unfit_number rs (Some n) c h = by_test (n == length rs) _ h

unfit_peer : (old : Names_data) (o : Option (List ℕ)) (c : Bool) → row_step o c ≡ None → fault_of_role old o ≡ None
unfit_peer old None c h = refl
unfit_peer old (Some w) c h = absurd (cc h)

unfit_in : (old : Names_data) (rs : List RowTree) (p : RowCut) (t : Sign) → row_grows rs p t ≡ None → fault_in_row old rs p t ≡ None
unfit_in old rs at_number t h = unfit_number rs (number_value t) _ h
unfit_in old rs behind_number t h = unfit_peer old (plain_text t) _ h
unfit_in old rs (in_arm p m arms at_label) t h = unfit_label (names_with old.labels (labels_of_rows rs ++ labels_of_arms arms)) p m arms (word_text t) h
unfit_in old rs (in_arm p m arms _) t h = refl
unfit_in old rs _ t h = refl

-- a token by which a place doesn't go on breaks no rule there
unfit : (old : Names_data) (c : Cut) (t : Sign) → grows c t ≡ None → fault_of old c t ≡ None
unfit old at_role t h = unfit_role old (plain_text t) h
unfit old (in_rows x rs p) t h = unfit_in old rs p t (no_map x rs (row_grows rs p t) h)
unfit old _ t h = refl

unfaulty_in : (old : Names_data) (rs : List RowTree) (p : RowCut) (j : FaultKind) → fault_in_row old rs p (broken j) ≡ None
unfaulty_in old rs (in_arm p m arms at_label) j = refl
unfaulty_in old rs (in_arm p m arms _) j = refl
unfaulty_in old rs _ j = refl

unfaulty : (old : Names_data) (c : Cut) (j : FaultKind) → fault_of old c (broken j) ≡ None
unfaulty old (in_rows x rs p) j = unfaulty_in old rs p j
unfaulty old _ j = refl

broken_stuck_in : (rs : List RowTree) (p : RowCut) (j : FaultKind) → row_grows rs p (broken j) ≡ None
broken_stuck_in rs (in_arm p m arms at_label) j = refl
broken_stuck_in rs (in_arm p m arms (behind_label l)) j = refl
broken_stuck_in rs (in_arm p m arms (behind_paren l)) j = refl
broken_stuck_in rs (in_arm p m arms (behind_sort l q)) j = refl
broken_stuck_in rs (in_arm p m arms (behind_head l q)) j = refl
broken_stuck_in rs _ j = refl

broken_stuck : (c : Cut) (j : FaultKind) → grows c (broken j) ≡ None
broken_stuck (in_rows x rs p) j = ap (option_map (grown_to x rs)) (broken_stuck_in rs p j)
broken_stuck _ j = refl

goes_whole : (c d : Cut) (t : Sign) → Wholeness t → grows c t ≡ Some d → IsWhole t
goes_whole c d _ (a_faulty j) h = absurd (cc (sym (broken_stuck c j) ∙ h))
goes_whole c d _ (a_whole t w) h = w

goes_within : (c d : Cut) (t : Sign) → grows c t ≡ Some d → IsInTable c
goes_within (at_end e) d t h = absurd (cc h)
goes_within _ d t h = tt

-- ---- one token

whole_fed : (t : Sign) (at : ℕ) (n : Lexeme) (r : Reader_data) → IsWhole t → feed_sign feeding t at n r ≡ feed_at r.mode t at r
whole_fed (broken k) at n r h = absurd h
whole_fed _ at n r h = refl

if_some_at : (P : Cut → Type 0) (o : Option Cut) (d : Cut) → IfSome o P → o ≡ Some d → P d
if_some_at P (Some c) d h e = let same : c ≡ d = cc in subst P same h
if_some_at P None d h e = absurd (cc e)

told_ok : (old : Names_data) (g : Option Cut) (f : Option TextKind) (w : Wanted) (at : ℕ) (d : Reader_data) → told old g f w at ≡ Ok d → (c : Cut) × (g ≡ Some c) × (f ≡ None) × (d ≡ stand old c)
told_ok old None f w at d h = absurd (cc h)
told_ok old (Some c) None w at d h = (c, refl, refl, cc)
told_ok old (Some c) (Some k) w at d h = absurd (cc h)

fed_is : (old : Names_data) (xs : List Sign) (t : Sign) (at : ℕ) (n : Lexeme) (r : Reader_data) (s : Stood old xs r) → IsWhole t
    → feed_sign feeding t at n r ≡ told old (grows s.place t) (fault_of old s.place t) (wanted_of s.place) at
fed_is old xs t at n r s w = whole_fed t at n r w ∙ ap (λ (z : Reader_data). feed_at z.mode t at z) s.reader_is ∙ says old s.place t at

stood_on : (old : Names_data) (xs : List Sign) (t : Sign) (r d : Reader_data) (s : Stood old xs r) → IsProper t → (c : Cut) → grows s.place t ≡ Some c → fault_of old s.place t ≡ None → d ≡ stand old c
    → Follows old (xs ++ t ∷ []) d → Stood old (xs ++ t ∷ []) d
stood_on old xs t r d s proper c g f e follows =
    let on : GoesOn s.place t c = if_some_at (GoesOn s.place t) (grows s.place t) c (goes_on s.place t s.right proper) g in
    let adds : Change old s.place t c = if_some_at (Change old s.place t) (grows s.place t) c (change old s.place t) g in
    record { place = c; right = on.1; signs = on.0 ∙ ap (λ z. z ++ t ∷ []) s.signs; reader_is = e; fits = fits_on old s.place t c adds f s.fits; follows = follows }

taken_by : (t : Sign) → Wholeness t → (old : Names_data) (xs : List Sign) (at : ℕ) (n : Lexeme) (r d : Reader_data) → Stood old xs r → IsProper t → feed_sign feeding t at n r ≡ Ok d
    → Stood old (xs ++ t ∷ []) d
taken_by _ (a_faulty k) old xs at n r d s proper e = absurd (cc e)
taken_by _ (a_whole t w) old xs at n r d s proper e =
    let o = told_ok old (grows s.place t) (fault_of old s.place t) (wanted_of s.place) at d (sym (fed_is old xs t at n r s w) ∙ e) in
    stood_on old xs t r d s proper o.0 o.1 o.2 o.3 (follows_on old xs t at n r d s.follows e)

same_place : (old : Names_data) (xs : List Sign) (r : Reader_data) (s : Stood old xs r) (d : Cut) → StandsAt xs d → d ≡ s.place
same_place old xs r s d k = one_place d s.place k.right s.right (k.signs ∙ sym s.signs)

-- the tokens go on with this one
begins_on : (old : Names_data) (xs : List Sign) (t : Sign) (r : Reader_data) (s : Stood old xs r) → IsProper t → (c : Cut) → grows s.place t ≡ Some c → Begins (xs ++ t ∷ [])
begins_on old xs t r s proper c g =
    let on : GoesOn s.place t c = if_some_at (GoesOn s.place t) (grows s.place t) c (goes_on s.place t s.right proper) g in
    subst Begins (on.0 ∙ ap (λ z. z ++ t ∷ []) s.signs) (completes c on.1)

no_misplaced : (old : Names_data) (xs : List Sign) (t : Sign) (r : Reader_data) (s : Stood old xs r) (k : TextKind) → fault_of old s.place t ≡ None → IsMisplaced old xs t k → ⊥
no_misplaced old xs t r s k f m = absurd (cc (sym m.fault ∙ ap (λ z. fault_of old z t) (same_place old xs r s m.place m.stands) ∙ f))

clear_of : (old : Names_data) (xs : List Sign) (t u : Sign) (r : Reader_data) (s : Stood old xs r) → IsProper t → IsWhole t → (c : Cut) → grows s.place t ≡ Some c → fault_of old s.place t ≡ None
    → IsClear (FaultAt old) xs t u
clear_of old xs t u r s proper w c g f k h = elim h [
  | inl x ↦ x.2.stops (begins_on old xs t r s proper c g)
  | inr (inl m) ↦ no_misplaced old xs t r s k f m
  | inr (inr b) ↦ subst IsWhole b.2.broken_is w
]

at_place : (old : Names_data) (xs : List Sign) (r : Reader_data) (s : Stood old xs r) → IsInTable s.place → StandsAt xs s.place
at_place old xs r s h = record { right = s.right; within = h; signs = s.signs }

misplaced : (old : Names_data) (xs : List Sign) (t : Sign) (at : ℕ) (u : Sign) (r : Reader_data) (s : Stood old xs r) → IsProper t → IsWhole t → (c : Cut) (k : TextKind) → grows s.place t ≡ Some c
    → fault_of old s.place t ≡ Some k → Here (FaultAt old) xs t at u (record { kind = k; at = at })
misplaced old xs t at u r s proper w c k g f = record {
  at_is = refl;
  fault = inr (inl (record { place = s.place; stands = at_place old xs r s (goes_within s.place c t g); fault = f }));
  only = λ i h. elim h [
    | inl x ↦ absurd (x.2.stops (begins_on old xs t r s proper c g))
    | inr (inl m) ↦ cc (sym m.fault ∙ ap (λ z. fault_of old z t) (same_place old xs r s m.place m.stands) ∙ f)
    | inr (inr b) ↦ absurd (subst IsWhole b.2.broken_is w)
  ];
}

unexpected : (old : Names_data) (xs : List Sign) (t : Sign) (at : ℕ) (u : Sign) (r : Reader_data) (s : Stood old xs r) → IsInTable s.place → IsWhole t → grows s.place t ≡ None
    → Here (FaultAt old) xs t at u (record { kind = kind.Expected (wanted_of s.place); at = at })
unexpected old xs t at u r s h w g = record {
  at_is = refl;
  fault = inl (
    wanted_of s.place,
    refl,
    record {
      whole = w;
      place = s.place;
      stands = at_place old xs r s h;
      wants = refl;
      stops = λ b. stuck s.place t s.right g (subst (λ (z : List Sign). Begins (z ++ t ∷ [])) (sym s.signs) b);
    },
  );
  only = λ i k. elim k [
    | inl x ↦ x.1 ∙ ap (λ z. kind.Expected z) (sym x.2.wants ∙ ap wanted_of (same_place old xs r s x.2.place x.2.stands))
    | inr (inl m) ↦ absurd (no_misplaced old xs t r s i (unfit old s.place t g) m)
    | inr (inr b) ↦ absurd (subst IsWhole b.2.broken_is w)
  ];
}

verdict_of : (old : Names_data) (xs : List Sign) (t : Sign) (at : ℕ) (n : Lexeme) (r : Reader_data) (s : Stood old xs r) → IsInTable s.place → IsProper t → IsWhole t
    → (g : Option Cut) (f : Option TextKind) → grows s.place t ≡ g → fault_of old s.place t ≡ f
    → judging.Verdict (FaultAt old) (HasLabels old) r xs t at n (told old g f (wanted_of s.place) at)
verdict_of old xs t at n r s h proper w None f g e = inl (unexpected old xs t at n.sign r s h w g)
verdict_of old xs t at n r s h proper w (Some c) None g e = clear_of old xs t n.sign r s proper w c g e
verdict_of old xs t at n r s h proper w (Some c) (Some k) g e = inl (misplaced old xs t at n.sign r s proper w c k g e)

broken_same : (i j : FaultKind) → broken i ≡ broken j → i ≡ j
broken_same i j h = cc

faulty : (old : Names_data) (xs : List Sign) (j : FaultKind) (at : ℕ) (u : Sign) (r : Reader_data) (s : Stood old xs r) → IsInTable s.place
    → Here (FaultAt old) xs (broken j) at u (record { kind = kind_of j; at = at })
faulty old xs j at u r s h = record {
  at_is = refl;
  fault = inr (inr (j, refl, record { broken_is = refl; place = s.place; stands = at_place old xs r s h }));
  only = λ i k. elim k [
    | inl x ↦ absurd x.2.whole
    | inr (inl m) ↦ absurd (no_misplaced old xs (broken j) r s i (unfaulty old s.place j) m)
    | inr (inr b) ↦ b.1 ∙ ap kind_of (sym (broken_same j b.0 b.2.broken_is))
  ];
}

verdict_by : (t : Sign) → Wholeness t → (old : Names_data) (xs : List Sign) (at : ℕ) (n : Lexeme) (r : Reader_data) (s : Stood old xs r) → IsInTable s.place → IsProper t
    → judging.Verdict (FaultAt old) (HasLabels old) r xs t at n (feed_sign feeding t at n r)
verdict_by _ (a_faulty j) old xs at n r s h proper = inl (faulty old xs j at n.sign r s h)
verdict_by _ (a_whole t w) old xs at n r s h proper =
    subst (λ (z : Fed). judging.Verdict (FaultAt old) (HasLabels old) r xs t at n z) (sym (fed_is old xs t at n r s w))
    (verdict_of old xs t at n r s h proper w (grows s.place t) (fault_of old s.place t) refl refl)

-- ---- the whole

there_of : (old : Names_data) (xs : List Sign) (t u : Sign) (k : TextKind) → FaultAt old xs t u k → (c : Cut) × StandsAt xs c
there_of old xs t u k f = elim f [
  | inl x ↦ (x.2.place, x.2.stands)
  | inr (inl m) ↦ (m.place, m.stands)
  | inr (inr b) ↦ (b.2.place, b.2.stands)
]

read_within : (old : Names_data) (r : Reader_data) (c d : Cut) → r ≡ stand old c → is_read r ≡ true → d ≡ c → IsInTable d → ⊥
read_within old r c d e h same w = absurd (cc (sym h ∙ ap is_read (e ∙ ap (stand old) (sym same)) ∙ unread old d w))

behind_clear : (old : Names_data) (xs : List Sign) (t u : Sign) (r : Reader_data) (k : TextKind) → Stood old xs r → is_read r ≡ true → FaultAt old xs t u k → ⊥
behind_clear old xs t u r k s h f = let c = there_of old xs t u k f in read_within old r s.place c.0 s.reader_is h (same_place old xs r s c.0 c.1) c.1.within

beyond : (old : Names_data) (xs : List Sign) (t : Sign) (ys : List Sign) (v u : Sign) (r : Reader_data) (k : TextKind) → Stood old xs r → is_read r ≡ true → FaultAt old (xs ++ (t ∷ ys)) v u k → ⊥
beyond old xs t ys v u r k s h f =
    let c = there_of old (xs ++ (t ∷ ys)) v u k f in
    let e = end_of old s.place (ap is_read (sym s.reader_is) ∙ h) in
    no_further e.0 t ys c.0 (subst IsPlace e.1 s.right) c.1.right (c.1.signs ∙ ap (λ z. z ++ (t ∷ ys)) (sym s.signs ∙ ap cut_signs e.1))

pub judges : (old : Names_data) → Judges feeding (FaultAt old) (At old) (HasLabels old)
judges old = record {
  ends = at_end_stops;
  taken = λ xs t at n r d stands name unread e. taken_by t (wholeness t) old xs at n r d stands (proper_sign t name) e;
  left = λ xs t r stands. stands.follows.labels;
  verdict = λ xs t at n r stands name unread. verdict_by t (wholeness t) old xs at n r stands (within old stands.place (ap is_read (sym stands.reader_is) ∙ unread)) (proper_sign t name);
  behind = λ xs t u r k stands h f. behind_clear old xs t u r k stands h f;
  beyond = λ xs t ys s u r k stands h whole f. beyond old xs t ys s u r k stands h f;
}

pub begins : (old : Names_data) → length old.labels ≤ MOST_LABELS → (t : Sign) → At old [] t (start_of_table old)
begins old h t = record { place = at_begin; right = tt; signs = refl; reader_is = refl; fits = fits_first old h; follows = follows_first old }

-- ---- what is read is spelt

-- what is read at the end of a table
fits_of : (old : Names_data) (tree : TableTree) → IsFormed tree → FitsSo old (at_end tree) → Fits old tree
fits_of old tree formed f = record { formed = formed; roles = f.roles; labels = f.labels; rows = f.count }

pub fits_so : (old : Names_data) (tree : TableTree) → Fits old tree → FitsSo old (at_end tree)
fits_so old tree f = record { roles = f.roles; labels = f.labels; count = f.rows }

spelt_by : (old : Names_data) (bytes : List ℕ) (at : ℕ) (ls : List Lexeme) (x : Reading Reader_data) → Lexed bytes at ls → Halt feeding (At old) [] ls x
    → SpellsTable bytes at old (names_read x.reader) (machine_read x.reader) x.until
spelt_by old bytes at ls x lexed h =
    let s : Stood old (signs_of h.xs) x.reader = h.stands in
    let e = end_of old s.place (ap is_read (sym s.reader_is) ∙ h.read) in
    let reader : x.reader ≡ stand old (at_end e.0) = s.reader_is ∙ ap (stand old) e.1 in
    record {
      tree = e.0;
      lexemes = h.xs;
      behind = h.l;
      others = h.others;
      tokens = lexed_are bytes (h.xs ++ h.l ∷ h.others) at (subst (Lexed bytes at) h.split lexed);
      spelt = sym s.signs ∙ ap cut_signs e.1;
      fits = fits_of old e.0 (subst IsPlace e.1 s.right) (subst (FitsSo old) e.1 s.fits);
      names_are = ap names_read reader;
      machine_is = ap machine_read reader ∙ ap (λ z. machine_of_table z e.0) (sym (ap names_read reader));
      goes_on = h.until;
    }

pub sound : (old : Names_data) → length old.labels ≤ MOST_LABELS → (bytes : List ℕ) (at : ℕ) (ls : List Lexeme) (x : Reading Reader_data) → Lexed bytes at ls
    → read_all feeding (Ok (start_of_table old)) ls ≡ Ok x → SpellsTable bytes at old (names_read x.reader) (machine_read x.reader) x.until
sound old few bytes at ls x lexed e = spelt_by old bytes at ls x lexed (halt (judges old) (start_of_table old) bytes at ls x (begins old few) lexed e)

-- ---- what is spelt is read

some_or : (o : Option Cut) → (o ≡ None) ⊎ ((d : Cut) × (o ≡ Some d))
some_or None = inl refl
some_or (Some d) = inr (d, refl)

fits_along : (old : Names_data) (ts : List Sign) (c d : Cut) → along (Some c) ts ≡ Some d → FitsSo old d → FitsSo old c
fits_along old [] c d h f = let same : c ≡ d = cc in subst (FitsSo old) (sym same) f
fits_along old (t ∷ ts) c d h f = elim (some_or (grows c t)) [
  | inl g ↦ absurd (cc (sym h ∙ ap (λ z. along z ts) g))
  | inr e ↦ (fits_back old c t e.0 (if_some_at (Change old c t) (grows c t) e.0 (change old c t) e.1) (fits_along old ts e.0 d (sym (ap (λ z. along z ts) e.1) ∙ h) f)).0
]

-- one token that is taken
step_read : (old : Names_data) (x : Lexeme) (c e : Cut) (rest : List Lexeme) → grows c x.sign ≡ Some e → FitsSo old e
    → read_all feeding (Ok (stand old c)) (x ∷ rest) ≡ read_all feeding (Ok (stand old e)) rest
step_read old x c e rest g f =
    let clear : fault_of old c x.sign ≡ None = (fits_back old c x.sign e (if_some_at (Change old c x.sign) (grows c x.sign) e (change old c x.sign) g) f).1 in
    let fed : feed_sign feeding x.sign x.from (next_lexeme_of x rest) (stand old c) ≡ Ok (stand old e) =
    whole_fed x.sign x.from (next_lexeme_of x rest) (stand old c) (goes_whole c e x.sign (wholeness x.sign) g) ∙ says old c x.sign x.from
    ∙ ap (λ z. told old z (fault_of old c x.sign) (wanted_of c) x.from) g ∙ ap (λ z. told old (Some e) z (wanted_of c) x.from) clear in
    ap (λ z. if z then Ok (record { reader = stand old c; until = x.from }) else read_all feeding (feed_sign feeding x.sign x.from (next_lexeme_of x rest) (stand old c)) rest)
    (unread old c (goes_within c e x.sign g))
    ∙ ap (λ z. read_all feeding z rest) fed

runs : (old : Names_data) (xs : List Lexeme) (c : Cut) (tree : TableTree) (l : Lexeme) (others : List Lexeme) → along (Some c) (signs_of xs) ≡ Some (at_end tree) → FitsSo old (at_end tree)
    → read_all feeding (Ok (stand old c)) (xs ++ l ∷ others) ≡ Ok (record { reader = stand old (at_end tree); until = l.from })
runs old [] c tree l others h f = let same : c ≡ at_end tree = cc in ap (λ z. read_all feeding (Ok (stand old z)) (l ∷ others)) same
runs old (x ∷ xs) c tree l others h f = elim (some_or (grows c x.sign)) [
  | inl g ↦ absurd (cc (sym h ∙ ap (λ z. along z (signs_of xs)) g))
  | inr e ↦ (
      let on : along (Some e.0) (signs_of xs) ≡ Some (at_end tree) = sym (ap (λ z. along z (signs_of xs)) e.1) ∙ h in
      step_read old x c e.0 (xs ++ l ∷ others) e.1 (fits_along old (signs_of xs) e.0 (at_end tree) on f) ∙ runs old xs e.0 tree l others on f)
]

-- the reading of what is spelt
pub complete : (old new : Names_data) (bytes : List ℕ) (at : ℕ) (machine : Machine_data) (until : ℕ) (s : SpellsTable bytes at old new machine until)
    → read_all feeding (Ok (start_of_table old)) (s.lexemes ++ s.behind ∷ s.others) ≡ Ok (record { reader = stand old (at_end s.tree); until = s.behind.from })
complete old new bytes at machine until s =
    runs old s.lexemes at_begin s.tree s.behind s.others (ap (along (Some at_begin)) s.spelt ∙ path (at_end s.tree) s.fits.formed) (fits_so old s.tree s.fits)
