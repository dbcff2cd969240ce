-- What the reader says of one token: it is taken, or its fault is told.
use Rattle.std.proofs.Common.{◌≡◌, ℕ, List, [], ◌∷◌, ◌++◌, length, Bool, true, false, ◌&&◌, if◌then◌else◌, not, Option, Some, None, Result, Ok, Err, refl, sym, ap, ◌∙◌, subst, ◌⊎◌, inl, inr, append_assoc, append-nil}
use Rattle.std.proofs.lemmas.Bool.{and_parts, and_from}
use Rattle.rs_grammar.specs.declared.classes.Class.TheVariants as class
use Rattle.rs_grammar.specs.declared.symbols.Symbol.{Symbol}
use Rattle.rs_grammar.specs.Building.{Building, next_among, on_ok, built}
use Rattle.rs_grammar.specs.Ends.{IsNever, no_step, at_end_stops}
use Rattle.rs_grammar.specs.declared.symbols.Symbol.TheVariants.{Part}
use Rattle.rs_grammar.specs.Grammar.{Grammar, part_at, whole}
use Rattle.rs_grammar.specs.Places.{Takes, Leads, can_end, wanted_at}
use Rattle.rs_grammar.specs.Readings.{event, Reaches, IsUnexpected, IsRefused, IsBroken, FaultAt, fault_rule, Makes}
use Rattle.rs_grammar.specs.Steps.{Reader, Step, step, is_left, settled, is_done, placed, go_on, on_step, automaton}
use Rattle.rs_grammar.specs.Tests.{all_end, begins_well, ends, is_readable}
use Rattle.rs_grammar.specs.Trees.{Event, events_of, signs_in, Spells, Begins}
use Rattle.rs_grammar.proofs.Deciding.{Decided, Fits, decided, takes_step, step_takes, takes_fits, one_step}
use Rattle.rs_grammar.proofs.Ending.{Endable, completed, takes_endable}
use Rattle.rs_grammar.proofs.Spelling.{Derives, cons_same, derived, spelt}
use Rattle.rs_text.specs.declared.faults.TextFault.{TextFault}
use Rattle.rs_text.specs.declared.faults.TextKind.{TextKind}
use Rattle.rs_text.specs.declared.faults.TextKind.TheVariants as kind
use Rattle.rs_text.specs.declared.tokens.FaultKind.{FaultKind}
use Rattle.rs_text.specs.Faults.{kind_of}
use Rattle.rs_text.specs.FirstFaults.{IsWhole}
use Rattle.rs_text.specs.Lexemes.{Lexeme}
use Rattle.rs_text.specs.Readings.{feed_sign, fault, expected}
use Rattle.rs_text.specs.Signs.{Sign, broken}
use Rattle.rs_text.proofs.Judging.{Judges, Verdict, Wholeness, a_faulty, a_whole, wholeness}

-- ---- places

pub record Readable (g : Grammar) : Type 0 where
  pub decided : Decided g
  pub ends : all_end g ≡ true
  pub begins : begins_well g ≡ true

pub readable : (g : Grammar) → is_readable g ≡ true → Readable g
readable g h =
    let b = and_parts _ _ h in
    let c = and_parts _ _ b.1 in
    record { decided = decided g b.0; ends = c.0; begins = c.1 }

pub record IsPlace (g : Grammar) (xs : List Symbol) : Type 0 where
  pub fits : Fits g xs
  pub ends : Endable g xs

pub whole_place : (g : Grammar) → Readable g → IsPlace g whole
whole_place g q = record { fits = ((λ t h. absurd (cc h)), tt); ends = and_from _ _ (and_parts _ _ q.begins).0 refl }

pub place_on : (g : Grammar) → Readable g → (e : Event) (xs d : List Symbol) → IsPlace g xs → Takes g e xs d → IsPlace g d
place_on g q e xs d p k = record { fits = takes_fits g q.decided e xs d p.fits k; ends = takes_endable g q.ends e xs d p.ends k }

pub place_after : (g : Grammar) → Readable g → (xs d : List Symbol) (before : List Event) → IsPlace g xs → Leads g xs before d → IsPlace g d
place_after g q xs d [] p l = subst (λ (z : List Symbol). IsPlace g z) l p
place_after g q xs d (e ∷ es) p l = place_after g q l.0 d es (place_on g q e xs l.0 p l.1) l.2

-- ---- from place to place

signs_append : (xs ys : List Event) → signs_in (xs ++ ys) ≡ signs_in xs ++ signs_in ys
signs_append [] ys = refl
signs_append (x ∷ xs) ys = ap (λ z. x.sign ∷ z) (signs_append xs ys)

event_same : (x f : Event) → x.action ≡ f.action → x.sign ≡ f.sign → x ≡ f
event_same x f h k = ap (λ z. event z x.sign) h ∙ ap (λ z. event f.action z) k

one_path : (g : Grammar) → Readable g → (xs d m : List Symbol) (es fs : List Event) → IsPlace g xs → Leads g xs es d → Leads g xs fs m → signs_in es ≡ signs_in fs → (es ≡ fs) × (d ≡ m)
one_path g q xs d m [] [] p h k e = (refl, sym h ∙ k)
one_path g q xs d m [] (f ∷ fs) p h k e = absurd (cc e)
one_path g q xs d m (x ∷ es) [] p h k e = absurd (cc e)
one_path g q xs d m (x ∷ es) (f ∷ fs) p h k e =
    let c = cons_same x.sign f.sign (signs_in es) (signs_in fs) e in
    let s = one_step g q.decided x f xs h.0 k.0 p.fits h.1 k.1 c.0 in
    let r = one_path g q k.0 d m es fs (place_on g q f xs k.0 p k.1) (subst (λ (z : List Symbol). Leads g z es d) (ap (λ (z : Step). z.place) s) h.2) k.2 c.1 in
    (ap (λ z. z ∷ es) (event_same x f (ap (λ (z : Step). z.action) s) c.0) ∙ ap (λ z. f ∷ z) r.0, r.1)

ok_is : {S : Type 0} (r : Result S TextKind) (v w : S) → r ≡ Ok v → r ≡ Ok w → v ≡ w
ok_is r v w h k = cc

pub one_reach : {S : Type 0} (g : Grammar) → Readable g → (take : Building S) (s : S) (xs : List Sign) (t : Sign) (d m : List Symbol) (v w : S) → Reaches g take s xs t d v → Reaches g take s xs t m w
    → (d ≡ m) × (v ≡ w)
one_reach g q take s xs t d m v w a b =
    let r = one_path g q whole d m a.events b.events (whole_place g q) a.leads b.leads (a.signs ∙ sym b.signs) in
    (r.1, ok_is (built take a.events t s) v w a.made (ap (λ z. built take z t s) r.0 ∙ b.made))

leads_on : (g : Grammar) (xs d m : List Symbol) (es : List Event) (e : Event) → Leads g xs es d → Takes g e d m → Leads g xs (es ++ e ∷ []) m
leads_on g xs d m [] e h k = (m, subst (λ (z : List Symbol). Takes g e z m) (sym h) k, refl)
leads_on g xs d m (x ∷ es) e h k = (h.0, h.1, leads_on g h.0 d m es e h.2 k)

next_on : (es : List Event) (e : Event) (u : Sign) → next_among (es ++ e ∷ []) u ≡ next_among es e.sign
next_on [] e u = refl
next_on (x ∷ es) e u = refl

pub ok_made : {S : Type 0} (r : Result S TextKind) (go : S → Result S TextKind) (v : S) → on_ok r go ≡ Ok v → (d : S) × (r ≡ Ok d) × (go d ≡ Ok v)
ok_made (Ok d) go v h = (d, refl, h)
ok_made (Err k) go v h = absurd (cc h)

abbrev fine : {S : Type 0} → S → Result S TextKind
fine v = Ok v

built_on : {S : Type 0} (take : Building S) (es : List Event) (e : Event) (u : Sign) (s v w : S) → built take es e.sign s ≡ Ok v → take e.action e.sign u v ≡ Ok w → built take (es ++ e ∷ []) u s ≡ Ok w
built_on take [] e u s v w h k =
    let same : s ≡ v = ok_is (fine s) s v refl h in
    ap (λ z. on_ok (take e.action e.sign u z) (λ d. Ok d)) same ∙ ap (λ z. on_ok z (λ d. Ok d)) k
built_on take (x ∷ es) e u s v w h k =
    let m = ok_made (take x.action x.sign (next_among es e.sign) s) (λ d. built take es e.sign d) v h in
    ap (λ z. on_ok (take x.action x.sign z s) (λ d. built take (es ++ e ∷ []) u d)) (next_on es e u) ∙ ap (λ z. on_ok z (λ d. built take (es ++ e ∷ []) u d)) m.1 ∙ built_on take es e u m.0 v w m.2 k

reach_on : {S : Type 0} (g : Grammar) (take : Building S) (s : S) (xs : List Sign) (t u : Sign) (a : ℕ) (d m : List Symbol) (v w : S) → Reaches g take s xs t d v → Takes g (event a t) d m → take a t u v ≡ Ok w
    → Reaches g take s (xs ++ t ∷ []) u m w
reach_on g take s xs t u a d m v w r k h = record {
  events = r.events ++ event a t ∷ [];
  signs = signs_append r.events (event a t ∷ []) ∙ ap (λ z. z ++ t ∷ []) r.signs;
  leads = leads_on g whole d m r.events (event a t) r.leads k;
  made = built_on take r.events (event a t) u s v w r.made h;
}

-- the tokens after a place's tokens go on from there
path_takes : (g : Grammar) → Readable g → (xs d m : List Symbol) (before fs : List Event) (t : Sign) (ts : List Sign) → IsPlace g xs → Leads g xs before d → Leads g xs fs m → signs_in fs ≡ signs_in before ++ t ∷ ts
    → (e : Event) × (later : List Symbol) × (e.sign ≡ t) × Takes g e d later
path_takes g q xs d m [] [] t ts p h k e = absurd (cc e)
path_takes g q xs d m [] (f ∷ fs) t ts p h k e = (f, k.0, (cons_same f.sign t (signs_in fs) ts e).0, subst (λ (z : List Symbol). Takes g f z k.0) h k.1)
path_takes g q xs d m (b ∷ bs) [] t ts p h k e = absurd (cc e)
path_takes g q xs d m (b ∷ bs) (f ∷ fs) t ts p h k e =
    let c = cons_same f.sign b.sign (signs_in fs) (signs_in bs ++ t ∷ ts) e in
    let s = one_step g q.decided f b xs k.0 h.0 p.fits k.1 h.1 c.0 in
    path_takes g q h.0 d m bs fs t ts (place_on g q b xs h.0 p h.1) h.2 (subst (λ (z : List Symbol). Leads g z fs m) (ap (λ (z : Step). z.place) s) k.2) c.1

-- ---- what a place says of the grammar

pub derive_on : (g : Grammar) (xs d : List Symbol) (before r : List Event) → Leads g xs before d → Derives g d r → Derives g xs (before ++ r)
derive_on g xs d [] r l k = subst (λ (z : List Symbol). Derives g z r) (sym l) k
derive_on g xs d (t ∷ ts) r l k = (l.0, l.1, derive_on g l.0 d ts r l.2 k)

derive_back : (g : Grammar) → Readable g → (xs d : List Symbol) (before es : List Event) (ts : List Sign) → IsPlace g xs → Leads g xs before d → Derives g xs es → signs_in es ≡ signs_in before ++ ts
    → (r : List Event) × Derives g d r × (signs_in r ≡ ts)
derive_back g q xs d [] es ts p l k h = (es, subst (λ (z : List Symbol). Derives g z es) l k, h)
derive_back g q xs d (b ∷ bs) [] ts p l k h = absurd (cc h)
derive_back g q xs d (b ∷ bs) (e ∷ es) ts p l k h =
    let c = cons_same e.sign b.sign (signs_in es) (signs_in bs ++ ts) h in
    derive_back g q l.0 d bs es ts (place_on g q b xs l.0 p l.1) l.2
    (subst (λ (z : List Symbol). Derives g z es) (ap (λ (z : Step). z.place) (one_step g q.decided e b xs k.0 l.0 p.fits k.1 l.1 c.0)) k.2) c.1

spelt_back : (g : Grammar) → Readable g → (xs d : List Symbol) (before : List Event) (ts : List Sign) → IsPlace g xs → Leads g xs before d → Spells g xs (signs_in before ++ ts)
    → (r : List Event) × Derives g d r × (signs_in r ≡ ts)
spelt_back g q xs d before ts p l k = derive_back g q xs d before (events_of k.0) ts p l (derived g xs k.0 k.1.0) (sym k.1.1)

unended : (g : Grammar) → Readable g → (xs d : List Symbol) (before : List Event) → IsPlace g xs → Leads g xs before d → can_end g d ≡ false → Spells g xs (signs_in before) → ⊥
unended g q xs d before p l h k =
    let e = spelt_back g q xs d before [] p l (subst (λ (z : List Sign). Spells g xs z) (sym (append-nil (signs_in before))) k) in
    not_ended e.0 e.1 e.2
  where
    not_ended : (r : List Event) → Derives g d r → signs_in r ≡ [] → ⊥
    not_ended [] k e = absurd (cc (sym k ∙ h))
    not_ended (x ∷ xs) k e = absurd (cc e)

ended : (g : Grammar) (xs d : List Symbol) (before : List Event) → Leads g xs before d → can_end g d ≡ true → Spells g xs (signs_in before)
ended g xs d before l e = spelt g xs (before ++ []) (signs_in before) (derive_on g xs d before [] l e) (ap signs_in (sym (append-nil before)))

cannot_go_on : (g : Grammar) → Readable g → (xs d : List Symbol) (before : List Event) (t : Sign) → IsPlace g xs → Leads g xs before d → step g d t ≡ None → Begins g xs (signs_in before ++ t ∷ []) → ⊥
cannot_go_on g q xs d before t p l h k =
    let e = spelt_back g q xs d before (t ∷ k.0) p l (subst (λ (z : List Sign). Spells g xs z) (append_assoc (signs_in before) (t ∷ []) k.0) k.1) in
    not_taken k.0 e.0 e.1 e.2
  where
    not_taken : (us : List Sign) (r : List Event) → Derives g d r → signs_in r ≡ t ∷ us → ⊥
    not_taken us [] k e = absurd (cc e)
    not_taken us (x ∷ rs) k e = absurd (cc (sym (takes_step g q.decided x d k.0 (place_after g q xs d before p l).fits k.1) ∙ ap (step g d) (cons_same x.sign t (signs_in rs) us e).0 ∙ h))

goes_on : (g : Grammar) → Readable g → (xs d : List Symbol) (before : List Event) (t : Sign) (m : Step) → IsPlace g xs → Leads g xs before d → step g d t ≡ Some m → Begins g xs (signs_in before ++ t ∷ [])
goes_on g q xs d before t m p l e =
    let takes = step_takes g t d m e in
    let c = completed g m.place (place_on g q (event m.action t) d m.place (place_after g q xs d before p l) takes).ends in (
      signs_in c.0,
      spelt g xs (before ++ event m.action t ∷ c.0) ((signs_in before ++ t ∷ []) ++ signs_in c.0) (derive_on g xs d before (event m.action t ∷ c.0) l (m.place, takes, c.1))
          (append_assoc (signs_in before) (t ∷ []) (signs_in c.0) ∙ sym (signs_append before (event m.action t ∷ c.0))),
    )

-- ---- where the reading is done

left_is : (t : Sign) (o : Option Step) → is_left t o ≡ true → IsWhole t × (o ≡ None)
left_is (broken k) o h = absurd (cc h)
left_is t None h = (tt, refl)
left_is t (Some m) h = absurd (cc h)

left_whole : (t : Sign) → IsWhole t → is_left t None ≡ true
left_whole (broken k) w = absurd w
left_whole t w = refl

left_step : (t : Sign) (m : Step) → is_left t (Some m) ≡ false
left_step (broken k) m = refl
left_step t m = refl

if_done : (b : Bool) (x : Symbol) (xs : List Symbol) → is_done (if b then [] else x ∷ xs) ≡ true → b ≡ true
if_done true x xs h = refl
if_done false x xs h = absurd (cc h)

if_stays : (b : Bool) (x : Symbol) (xs : List Symbol) → is_done (if b then [] else x ∷ xs) ≡ false → ((if b then [] else x ∷ xs) ≡ x ∷ xs) × (b ≡ false)
if_stays true x xs h = absurd (cc h)
if_stays false x xs h = (refl, refl)

abbrev pub Done : Grammar → List Symbol → Sign → Type 0
Done g xs t = (xs ≡ []) ⊎ ((can_end g xs ≡ true) × IsWhole t × (step g xs t ≡ None))

pub settled_done : (g : Grammar) (xs : List Symbol) (t : Sign) → is_done (settled g xs t) ≡ true → Done g xs t
settled_done g [] t h = inl refl
settled_done g (x ∷ xs) t h =
    let b = and_parts _ _ (if_done (can_end g (x ∷ xs) && is_left t (step g (x ∷ xs) t)) x xs h) in
    let l = left_is t (step g (x ∷ xs) t) b.1 in
    inr (b.0, l.0, l.1)

settled_stays : (g : Grammar) (xs : List Symbol) (t : Sign) → is_done (settled g xs t) ≡ false → (settled g xs t ≡ xs) × ((can_end g xs && is_left t (step g xs t)) ≡ false)
settled_stays g [] t h = absurd (cc h)
settled_stays g (x ∷ xs) t h = if_stays (can_end g (x ∷ xs) && is_left t (step g (x ∷ xs) t)) x xs h

not_ended : (b c : Bool) → (b && c) ≡ false → c ≡ true → b ≡ false
not_ended true c h k = absurd (cc (sym h ∙ k))
not_ended false c h k = refl

-- ---- one token

-- the reader is after the tokens xs and before t
pub record At {S : Type 0} (g : Grammar) (take : Building S) (s : S) (xs : List Sign) (t : Sign) (r : Reader S) : Type 1 where
  pub place : List Symbol
  pub settled_is : r.place ≡ settled g place t
  pub reaches : Reaches g take s xs t place r.value

pub never_broken : (k : FaultKind) → IsNever (broken k)
never_broken k class.Sort = refl
never_broken k _ = refl

reached : {S : Type 0} (g : Grammar) → Readable g → (take : Building S) (s : S) (xs : List Sign) (t : Sign) (d : List Symbol) (v : S) → Reaches g take s xs t d v → IsPlace g d
reached g q take s xs t d v r = place_after g q whole d r.events (whole_place g q) r.leads

-- a token that isn't taken at its place isn't refused by an action there
unrefused : {S : Type 0} (g : Grammar) → Readable g → (take : Building S) (s : S) (xs : List Sign) (t u : Sign) (d m : List Symbol) (v w : S) (k : TextKind) → Reaches g take s xs t d v → Reaches g take s xs t m w
    → step g d t ≡ None → IsRefused g take t u m w k → ⊥
unrefused g q take s xs t u d m v w k a b n f =
    absurd (cc (sym (takes_step g q.decided (event f.action t) m f.later (reached g q take s xs t m w b).fits f.takes) ∙ ap (λ z. step g z t) (sym (one_reach g q take s xs t d m v w a b).0) ∙ n))

whole_broken : (t : Sign) (k : FaultKind) → IsWhole t → t ≡ broken k → ⊥
whole_broken t k w e = subst IsWhole e w

told_broken : (j k : FaultKind) → broken j ≡ broken k → j ≡ k
told_broken j k h = cc

err_is : {S : Type 0} (r : Result S TextKind) (j k : TextKind) → r ≡ Err j → r ≡ Err k → j ≡ k
err_is r j k h e = cc

ok_err : {S : Type 0} (r : Result S TextKind) (v : S) (k : TextKind) → r ≡ Ok v → r ≡ Err k → ⊥
ok_err r v k h e = absurd (cc (sym h ∙ e))

abbrev Told : {S : Type 0} → Grammar → Building S → S → Reader S → List Sign → Sign → ℕ → Lexeme → Result (Reader S) TextFault → Type 0
Told g take s r xs t at n fed = Verdict (fault_rule g take s) (λ ys d. Makes g take s ys d.value) r xs t at n fed

-- a faulty token
broken_told : {S : Type 0} (g : Grammar) (q : Readable g) (take : Building S) (s : S) (xs : List Sign) (j : FaultKind) (at : ℕ) (n : Lexeme) (r : Reader S) (d : List Symbol) → Reaches g take s xs (broken j) d r.value → (d ≡ [] → ⊥)
    → Told g take s r xs (broken j) at n (fault (kind_of j) at)
broken_told g q take s xs j at n r d a unread = inl (record {
  at_is = refl;
  fault = record { place = d; value = r.value; reaches = a; says = inr (inr (record { broken_kind = j; broken_is = refl; unread = unread; kind_is = refl })) };
  only = λ k f. only k f f.says;
})
  where
    only : (k : TextKind) (f : FaultAt g take s xs (broken j) n.sign k)
        → IsUnexpected g xs (broken j) f.place k ⊎ (IsRefused g take (broken j) n.sign f.place f.value k ⊎ IsBroken (broken j) f.place k) → k ≡ kind_of j
    only k f (inl x) = absurd x.whole_token
    only k f (inr (inl x)) = absurd (unrefused g q take s xs (broken j) n.sign f.place f.place f.value f.value k f.reaches f.reaches (no_step g f.place (broken j) (never_broken j)) x)
    only k f (inr (inr x)) = x.kind_is ∙ ap kind_of (sym (told_broken j x.broken_kind x.broken_is))

-- a token that isn't taken
stop_told : {S : Type 0} (g : Grammar) (q : Readable g) (take : Building S) (s : S) (xs : List Sign) (t : Sign) (at : ℕ) (n : Lexeme) (r : Reader S) (d : List Symbol) → Reaches g take s xs t d r.value → IsWhole t → step g d t ≡ None
    → can_end g d ≡ false → r.place ≡ d → Told g take s r xs t at n (expected (wanted_at g r.place) at)
stop_told g q take s xs t at n r d a w e c same = inl (record {
  at_is = refl;
  fault = record {
    place = d;
    value = r.value;
    reaches = a;
    says = inl (record {
      whole_token = w;
      unended = λ z. unended g q whole d a.events (whole_place g q) a.leads c (subst (λ (y : List Sign). Spells g whole y) (sym a.signs) z);
      stops = λ z. cannot_go_on g q whole d a.events t (whole_place g q) a.leads e (subst (λ (y : List Sign). Begins g whole (y ++ t ∷ [])) (sym a.signs) z);
      wants = ap (λ z. kind.Expected (wanted_at g z)) same;
    });
  };
  only = λ k f. only k f f.says;
})
  where
    only : (k : TextKind) (f : FaultAt g take s xs t n.sign k) → IsUnexpected g xs t f.place k ⊎ (IsRefused g take t n.sign f.place f.value k ⊎ IsBroken t f.place k) → k ≡ kind.Expected (wanted_at g r.place)
    only k f (inl x) = x.wants ∙ ap (λ z. kind.Expected (wanted_at g z)) ((one_reach g q take s xs t f.place d f.value r.value f.reaches a).0 ∙ sym same)
    only k f (inr (inl x)) = absurd (unrefused g q take s xs t n.sign d f.place r.value f.value k a f.reaches e x)
    only k f (inr (inr x)) = absurd (whole_broken t x.broken_kind w x.broken_is)

-- the action of a fault at this token is the one of the step
refused_by : {S : Type 0} (g : Grammar) (q : Readable g) (take : Building S) (s : S) (xs : List Sign) (t u : Sign) (d m : List Symbol) (v w : S) (k : TextKind) (o : Step) → Reaches g take s xs t d v → Reaches g take s xs t m w
    → step g d t ≡ Some o → IsRefused g take t u m w k → take o.action t u v ≡ Err k
refused_by g q take s xs t u d m v w k o a b e f =
    let same = one_reach g q take s xs t d m v w a b in
    let one = one_step g q.decided (event o.action t) (event f.action t) m o.place f.later (reached g q take s xs t m w b).fits (subst (λ (z : List Symbol). Takes g (event o.action t) z o.place) same.0 (step_takes g t d o e)) f.takes refl in
    ap (λ (z : Step). take z.action t u v) one ∙ ap (λ z. take f.action t u z) same.1 ∙ f.finds

act_told : {S : Type 0} (g : Grammar) (q : Readable g) (take : Building S) (s : S) (xs : List Sign) (t : Sign) (at : ℕ) (n : Lexeme) (r : Reader S) (d : List Symbol) (o : Step) (x : Result S TextKind) → Reaches g take s xs t d r.value
    → IsWhole t → step g d t ≡ Some o → take o.action t n.sign r.value ≡ x → Told g take s r xs t at n (go_on g o.place n.sign (placed x at))
act_told g q take s xs t at n r d o (Ok v) a w e h = λ k f. clear k f f.says
  where
    clear : (k : TextKind) (f : FaultAt g take s xs t n.sign k) → IsUnexpected g xs t f.place k ⊎ (IsRefused g take t n.sign f.place f.value k ⊎ IsBroken t f.place k) → ⊥
    clear k f (inl x) = x.stops (subst (λ (y : List Sign). Begins g whole (y ++ t ∷ [])) a.signs (goes_on g q whole d a.events t o (whole_place g q) a.leads e))
    clear k f (inr (inl x)) = ok_err (take o.action t n.sign r.value) v k h (refused_by g q take s xs t n.sign d f.place r.value f.value k o a f.reaches e x)
    clear k f (inr (inr x)) = whole_broken t x.broken_kind w x.broken_is
act_told g q take s xs t at n r d o (Err j) a w e h = inl (record {
  at_is = refl;
  fault = record { place = d; value = r.value; reaches = a; says = inr (inl (record { action = o.action; later = o.place; takes = step_takes g t d o e; finds = h })) };
  only = λ k f. only k f f.says;
})
  where
    only : (k : TextKind) (f : FaultAt g take s xs t n.sign k) → IsUnexpected g xs t f.place k ⊎ (IsRefused g take t n.sign f.place f.value k ⊎ IsBroken t f.place k) → k ≡ j
    only k f (inl x) = absurd (x.stops (subst (λ (y : List Sign). Begins g whole (y ++ t ∷ [])) a.signs (goes_on g q whole d a.events t o (whole_place g q) a.leads e)))
    only k f (inr (inl x)) = err_is (take o.action t n.sign r.value) k j (refused_by g q take s xs t n.sign d f.place r.value f.value k o a f.reaches e x) h
    only k f (inr (inr x)) = absurd (whole_broken t x.broken_kind w x.broken_is)

step_told : {S : Type 0} (g : Grammar) (q : Readable g) (take : Building S) (s : S) (xs : List Sign) (t : Sign) (at : ℕ) (n : Lexeme) (r : Reader S) (d : List Symbol) (o : Option Step) → Reaches g take s xs t d r.value → IsWhole t
    → step g d t ≡ o → (can_end g d && is_left t o) ≡ false → r.place ≡ d → Told g take s r xs t at n (on_step g take o t at n.sign r)
step_told g q take s xs t at n r d None a w e c same = stop_told g q take s xs t at n r d a w e (not_ended (can_end g d) (is_left t None) c (left_whole t w)) same
step_told g q take s xs t at n r d (Some o) a w e c same = act_told g q take s xs t at n r d o (take o.action t n.sign r.value) a w e refl

pub whole_fed : {S : Type 0} (g : Grammar) (take : Building S) (t : Sign) (at : ℕ) (n : Lexeme) (r : Reader S) → IsWhole t → feed_sign (automaton g take) t at n r ≡ on_step g take (step g r.place t) t at n.sign r
whole_fed g take (broken k) at n r w = absurd w
whole_fed g take t at n r w = refl

told : {S : Type 0} (g : Grammar) (q : Readable g) (take : Building S) (s : S) (xs : List Sign) (t : Sign) (at : ℕ) (n : Lexeme) (r : Reader S) → Wholeness t → At g take s xs t r → is_done r.place ≡ false
    → Told g take s r xs t at n (feed_sign (automaton g take) t at n r)
told g q take s xs _ at n r (a_faulty j) p u =
    broken_told g q take s xs j at n r p.place p.reaches (λ z. absurd (cc (sym u ∙ ap is_done p.settled_is ∙ ap (λ y. is_done (settled g y (broken j))) z)))
told g q take s xs _ at n r (a_whole t w) p u =
    let k = settled_stays g p.place t (ap is_done (sym p.settled_is) ∙ u) in
    let same : r.place ≡ p.place = p.settled_is ∙ k.0 in
    subst (λ z. Told g take s r xs t at n z) (ap (λ z. on_step g take (step g z t) t at n.sign r) (sym same) ∙ sym (whole_fed g take t at n r w))
    (step_told g q take s xs t at n r p.place (step g p.place t) p.reaches w refl k.1 same)

-- ---- a token that is taken

abbrev Fed : {S : Type 0} → Grammar → Building S → Sign → Sign → (r d : Reader S) → Type 0
Fed g take t u r d = (o : Step) × (step g r.place t ≡ Some o) × (take o.action t u r.value ≡ Ok d.value) × (d.place ≡ settled g o.place u)

fed_value : {S : Type 0} (g : Grammar) (m : List Symbol) (u : Sign) (x : Result S TextKind) (at : ℕ) (d : Reader S) → go_on g m u (placed x at) ≡ Ok d → (x ≡ Ok d.value) × (d.place ≡ settled g m u)
fed_value g m u (Ok v) at d h = let same : record { place = settled g m u; value = v } ≡ d = cc in (ap (λ (z : Reader _). Ok z.value) same, sym (ap (λ (z : Reader _). z.place) same))
fed_value g m u (Err k) at d h = absurd (cc h)

fed_step : {S : Type 0} (g : Grammar) (take : Building S) (t u : Sign) (at : ℕ) (r d : Reader S) (o : Option Step) → step g r.place t ≡ o → on_step g take o t at u r ≡ Ok d → Fed g take t u r d
fed_step g take t u at r d None e h = absurd (cc h)
fed_step g take t u at r d (Some o) e h = let v = fed_value g o.place u (take o.action t u r.value) at d h in (o, e, v.0, v.1)

pub fed : {S : Type 0} (g : Grammar) (take : Building S) (t : Sign) (at : ℕ) (n : Lexeme) (r d : Reader S) → feed_sign (automaton g take) t at n r ≡ Ok d → Fed g take t n.sign r d
fed g take (broken k) at n r d h = absurd (cc h)
fed g take t at n r d h = fed_step g take t n.sign at r d (step g r.place t) refl h

stepped : (g : Grammar) (xs : List Symbol) (t : Sign) (o : Step) (p : List Symbol) → p ≡ settled g xs t → step g p t ≡ Some o → step g xs t ≡ Some o
stepped g xs t o [] e h = absurd (cc h)
stepped g xs t o (y ∷ ys) e h = ap (λ z. step g z t) (sym (settled_stays g xs t (ap is_done (sym e))).0 ∙ sym e) ∙ h

taken : {S : Type 0} (g : Grammar) (q : Readable g) (take : Building S) (s : S) (xs : List Sign) (t : Sign) (at : ℕ) (n : Lexeme) (r d : Reader S) → At g take s xs t r → feed_sign (automaton g take) t at n r ≡ Ok d
    → At g take s (xs ++ t ∷ []) n.sign d
taken g q take s xs t at n r d p h =
    let f = fed g take t at n r d h in
    let e = stepped g p.place t f.0 r.place p.settled_is f.1 in
    record { place = f.0.place; settled_is = f.3; reaches = reach_on g take s xs t n.sign f.0.action p.place f.0.place r.value d.value p.reaches (step_takes g t p.place f.0 e) f.2 }

-- ---- after the whole

not_behind : {S : Type 0} (g : Grammar) (q : Readable g) (take : Building S) (s : S) (xs : List Sign) (t u : Sign) (d : List Symbol) (v : S) (k : TextKind) → Reaches g take s xs t d v → Done g d t → FaultAt g take s xs t u k → ⊥
not_behind g q take s xs t u d v k a done f = by f.says done
  where
    same : d ≡ f.place
    same = (one_reach g q take s xs t d f.place v f.value a f.reaches).0

    by : IsUnexpected g xs t f.place k ⊎ (IsRefused g take t u f.place f.value k ⊎ IsBroken t f.place k) → Done g d t → ⊥
    by (inl x) (inl e) = x.unended (subst (λ (y : List Sign). Spells g whole y) a.signs (ended g whole d a.events a.leads (ap (can_end g) e)))
    by (inl x) (inr e) = x.unended (subst (λ (y : List Sign). Spells g whole y) a.signs (ended g whole d a.events a.leads e.0))
    by (inr (inl x)) (inl e) = unrefused g q take s xs t u d f.place v f.value k a f.reaches (ap (λ z. step g z t) e) x
    by (inr (inl x)) (inr e) = unrefused g q take s xs t u d f.place v f.value k a f.reaches e.2 x
    by (inr (inr x)) (inl e) = x.unread (sym same ∙ e)
    by (inr (inr x)) (inr e) = whole_broken t x.broken_kind e.1 x.broken_is

done_step : (g : Grammar) (d : List Symbol) (t : Sign) → Done g d t → step g d t ≡ None
done_step g d t (inl e) = ap (λ z. step g z t) e
done_step g d t (inr e) = e.2

not_beyond : {S : Type 0} (g : Grammar) (q : Readable g) (take : Building S) (s : S) (xs : List Sign) (t : Sign) (ys : List Sign) (b u : Sign) (d : List Symbol) (v : S) (k : TextKind) → Reaches g take s xs t d v → Done g d t
    → FaultAt g take s (xs ++ (t ∷ ys)) b u k → ⊥
not_beyond g q take s xs t ys b u d v k a done f =
    let p = path_takes g q whole d f.place a.events f.reaches.events t ys (whole_place g q) a.leads f.reaches.leads (f.reaches.signs ∙ ap (λ z. z ++ t ∷ ys) (sym a.signs)) in
    absurd (cc (sym (takes_step g q.decided p.0 d p.1 (reached g q take s xs t d v a).fits p.3) ∙ ap (step g d) p.2 ∙ done_step g d t done))

-- what is known of the reader of any grammar, of one token: the one value of its kind
pub judges : {S : Type 0} (g : Grammar) → Readable g → (take : Building S) (s : S) → Judges (automaton g take) (fault_rule g take s) (λ xs t r. At g take s xs t r) (λ xs r. Makes g take s xs r.value)
judges g q take s = record {
  ends = at_end_stops g take;
  taken = λ xs t at n r d p name u e. taken g q take s xs t at n r d p e;
  left = λ xs t r p. (t, p.place, p.reaches);
  verdict = λ xs t at n r p name u. told g q take s xs t at n r (wholeness t) p u;
  behind = λ xs t u r k p e f. not_behind g q take s xs t u p.place r.value k p.reaches (settled_done g p.place t (ap is_done (sym p.settled_is) ∙ e)) f;
  beyond = λ xs t ys b u r k p e w f. not_beyond g q take s xs t ys b u p.place r.value k p.reaches (settled_done g p.place t (ap is_done (sym p.settled_is) ∙ e)) f;
}

required : (b : Bool) → not b ≡ true → b ≡ false
required true h = absurd (cc h)
required false h = refl

-- the whole isn't done before it begins
pub whole_stays : (g : Grammar) → Readable g → (t : Sign) → whole ≡ settled g whole t
whole_stays g q t = let e = required (part_at g 0).optional (and_parts (ends g (length g) (Part 0)) (not (part_at g 0).optional) q.begins).1 in rw e refl

-- the reader before the first token
pub begins : {S : Type 0} (g : Grammar) → Readable g → (take : Building S) (s : S) (t : Sign) → At g take s [] t (record { place = whole; value = s })
begins g q take s t = record {
  place = whole;
  settled_is = whole_stays g q t;
  reaches = record { events = []; signs = refl; leads = refl; made = refl };
}
