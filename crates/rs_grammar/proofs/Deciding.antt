-- A token decides the step: at most one step can be made of it, and it is the reader's.
use Rattle.std.proofs.Common.{◌≡◌, ℕ, zero, suc, List, [], ◌∷◌, ◌++◌, Bool, true, false, ◌&&◌, ◌||◌, not, if◌then◌else◌, Option, Some, None, refl, sym, ap, ◌∙◌, subst, ◌⊎◌, inl, inr}
use Rattle.std.proofs.lemmas.Bool.{and_parts, and_from, or_left, or_right}
use Rattle.std.specs.List.{list_all}
use Rattle.rs_grammar.specs.declared.symbols.Symbol.{Symbol}
use Rattle.rs_grammar.specs.declared.symbols.Symbol.TheVariants.{Terminal, Part}
use Rattle.rs_text.specs.Signs.{Sign}
use Rattle.rs_grammar.specs.Classes.{accepts}
use Rattle.rs_grammar.specs.Places.{Takes, can_end}
use Rattle.rs_grammar.specs.Grammar as grammar
use Rattle.rs_grammar.specs.Grammar.{Grammar, Way, no_part, part_at, IsOneOf}
use Rattle.rs_grammar.specs.Steps.{Step, way_by, step_by, step}
use Rattle.rs_grammar.specs.Tests.{Accepted, accepted_by, goes, goes_once, can_begin, may_follow, follows, decides, is_decided}
use Rattle.rs_grammar.specs.Readings.{event}
use Rattle.rs_grammar.specs.Trees.{Event}
use Rattle.rs_grammar.proofs.Samples.{tested}

-- ---- what the test says of each part

pub every_part : (f : grammar.Part → Bool) → f no_part ≡ true → (g : Grammar) → list_all f g ≡ true → (n : ℕ) → f (part_at g n) ≡ true
every_part f e [] h n = e
every_part f e (p ∷ ps) h zero = (and_parts (f p) (list_all f ps) h).0
every_part f e (p ∷ ps) h (suc n) = every_part f e ps (and_parts (f p) (list_all f ps) h).1 n

pub every_way : (f : Way → Bool) (ws : List Way) (w : Way) → IsOneOf w ws → list_all f ws ≡ true → f w ≡ true
every_way f [] w k h = absurd k
every_way f (x ∷ xs) w (inl e) h = subst (λ (z : Way). f z ≡ true) (sym e) (and_parts (f x) (list_all f xs) h).0
every_way f (x ∷ xs) w (inr k) h = every_way f xs w k (and_parts (f x) (list_all f xs) h).1

pub record Decided (g : Grammar) : Type 0 where
  pub once : (n : ℕ) (t : Sign) → goes_once (part_at g n).ways (accepted_by t) ≡ true
  pub apart : (n : ℕ) (t : Sign) → (part_at g n).optional ≡ true → goes (part_at g n).ways (accepted_by t) ≡ true → may_follow (part_at g n) (accepted_by t) ≡ true → ⊥
  pub follow : (n : ℕ) (w : Way) → IsOneOf w (part_at g n).ways → (t : Sign) → follows g (part_at g n) w.rest (accepted_by t) ≡ true

not_all : (a b c : Bool) → not (a && b && c) ≡ true → a ≡ true → b ≡ true → c ≡ true → ⊥
not_all true true true h a b c = absurd (cc h)
not_all true true false h a b c = absurd (cc c)
not_all true false x h a b c = absurd (cc b)
not_all false y x h a b c = absurd (cc a)

pub decided : (g : Grammar) → is_decided g ≡ true → Decided g
decided g h =
    let at : (n : ℕ) (t : Sign) → decides g (part_at g n) (accepted_by t) ≡ true =
    λ n t. every_part (λ p. decides g p (accepted_by t)) refl g (tested (λ z. list_all (λ p. decides g p z) g) h t) n in
    record {
      once = λ n t. (and_parts _ _ (at n t)).0;
      apart = λ n t. not_all (part_at g n).optional (goes (part_at g n).ways (accepted_by t)) (may_follow (part_at g n) (accepted_by t)) (and_parts _ _ (and_parts _ _ (at n t)).1).0;
      follow = λ n w k t. every_way (λ w. follows g (part_at g n) w.rest (accepted_by t)) (part_at g n).ways w k (and_parts _ _ (and_parts _ _ (at n t)).1).1;
    }

-- ---- ways

pub goes_here : (t : Sign) (ws : List Way) (w : Way) → IsOneOf w ws → accepts w.first t ≡ true → goes ws (accepted_by t) ≡ true
goes_here t [] w k h = absurd k
goes_here t (x ∷ xs) w (inl e) h = or_left (accepts x.first t) (goes xs (accepted_by t)) (subst (λ (z : Way). accepts z.first t ≡ true) e h)
goes_here t (x ∷ xs) w (inr k) h = or_right (accepts x.first t) (goes xs (accepted_by t)) (goes_here t xs w k h)

pub not_and : (b : Bool) → not b ≡ true → b ≡ true → ⊥
not_and true h e = absurd (cc h)
not_and false h e = absurd (cc e)

if_once : (b : Bool) (t : Sign) (x : Way) (xs : List Way) (w : Way) → accepts x.first t ≡ b → (w ≡ x) ⊎ IsOneOf w xs → accepts w.first t ≡ true
    → (if b then not (goes xs (accepted_by t)) else goes_once xs (accepted_by t)) ≡ true → (IsOneOf w xs → goes_once xs (accepted_by t) ≡ true → way_by xs t ≡ Some w)
    → (if b then Some x else way_by xs t) ≡ Some w
if_once true t x xs w e (inl k) a h go = ap Some (sym k)
if_once true t x xs w e (inr k) a h go = absurd (not_and (goes xs (accepted_by t)) h (goes_here t xs w k a))
if_once false t x xs w e (inl k) a h go = absurd (cc (sym e ∙ subst (λ (z : Way). accepts z.first t ≡ true) k a))
if_once false t x xs w e (inr k) a h go = go k h

-- the only way that begins with the token is the first that does
pub one_way : (t : Sign) (ws : List Way) (w : Way) → IsOneOf w ws → accepts w.first t ≡ true → goes_once ws (accepted_by t) ≡ true → way_by ws t ≡ Some w
one_way t [] w k a h = absurd k
one_way t (x ∷ xs) w k a h = if_once (accepts x.first t) t x xs w refl k a h (λ k h. one_way t xs w k a h)

if_no_way : (b : Bool) (t : Sign) (x : Way) (xs : List Way) → (b || goes xs (accepted_by t)) ≡ false → (goes xs (accepted_by t) ≡ false → way_by xs t ≡ None)
    → (if b then Some x else way_by xs t) ≡ None
if_no_way true t x xs h go = absurd (cc h)
if_no_way false t x xs h go = go h

no_way : (t : Sign) (ws : List Way) → goes ws (accepted_by t) ≡ false → way_by ws t ≡ None
no_way t [] h = refl
no_way t (x ∷ xs) h = if_no_way (accepts x.first t) t x xs h (no_way t xs)

pub some_same : {A : Type 0} (x y : A) → Some x ≡ Some y → x ≡ y
some_same x y h = cc

abbrev pub Chosen : Sign → List Way → Way → Type 0
Chosen t ws w = IsOneOf w ws × (accepts w.first t ≡ true)

if_chosen : (b : Bool) (t : Sign) (x : Way) (xs : List Way) (w : Way) → accepts x.first t ≡ b → (if b then Some x else way_by xs t) ≡ Some w
    → (way_by xs t ≡ Some w → Chosen t xs w) → Chosen t (x ∷ xs) w
if_chosen true t x xs w e h go = let same = some_same x w h in (inl (sym same), subst (λ (z : Way). accepts z.first t ≡ true) same e)
if_chosen false t x xs w e h go = let k = go h in (inr k.0, k.1)

pub chosen : (t : Sign) (ws : List Way) (w : Way) → way_by ws t ≡ Some w → Chosen t ws w
chosen t [] w h = absurd (cc h)
chosen t (x ∷ xs) w h = if_chosen (accepts x.first t) t x xs w refl h (chosen t xs w)

-- ---- places: what may stand behind each part stands behind it

abbrev pub Fits : Grammar → List Symbol → Type 0
Fits g [] = Unit {0}
Fits g (Terminal c w a ∷ xs) = Fits g xs
Fits g (Part n ∷ xs) = ((t : Sign) → can_begin g xs (accepted_by t) ≡ true → may_follow (part_at g n) (accepted_by t) ≡ true) × Fits g xs

begin_part : (a m b e c d : Bool) → (a || (m && d)) ≡ true → (d ≡ true → (b ≡ true) ⊎ ((e ≡ true) × (c ≡ true))) → ((a || (m && b)) ≡ true) ⊎ (((m && e) ≡ true) × (c ≡ true))
begin_part true m b e c d h k = inl refl
begin_part false true b e c d h k = k h
begin_part false false b e c d h k = absurd (cc h)

begin_append : (g : Grammar) (xs ys : List Symbol) (t : Accepted) → can_begin g (xs ++ ys) t ≡ true → (can_begin g xs t ≡ true) ⊎ ((can_end g xs ≡ true) × (can_begin g ys t ≡ true))
begin_append g [] ys t h = inr (refl, h)
begin_append g (Terminal c w a ∷ xs) ys t h = inl h
begin_append g (Part n ∷ xs) ys t h =
    begin_part (goes (part_at g n).ways t) (part_at g n).optional (can_begin g xs t) (can_end g xs) (can_begin g ys t) (can_begin g (xs ++ ys) t) h (begin_append g xs ys t)

implied : (b e f m : Bool) → (not (b || (e && f)) || m) ≡ true → (b ≡ true) ⊎ ((e ≡ true) × (f ≡ true)) → m ≡ true
implied true e f m h k = h
implied false true true m h k = h
implied false true false m h (inl k) = absurd (cc k)
implied false true false m h (inr k) = absurd (cc k.1)
implied false false f m h (inl k) = absurd (cc k)
implied false false f m h (inr k) = absurd (cc k.0)

on_right {ℓ} : {A B C : Type ℓ} → (B → C) → A ⊎ B → A ⊎ C
on_right f (inl a) = inl a
on_right f (inr b) = inr (f b)

pub fits_append : (g : Grammar) (p : grammar.Part) (xs ys : List Symbol) → ((t : Sign) → follows g p xs (accepted_by t) ≡ true)
    → ((t : Sign) → can_begin g ys (accepted_by t) ≡ true → may_follow p (accepted_by t) ≡ true) → Fits g ys → Fits g (xs ++ ys)
fits_append g p [] ys h k f = f
fits_append g p (Terminal c w a ∷ xs) ys h k f = fits_append g p xs ys h k f
fits_append g p (Part n ∷ xs) ys h k f = (
  (λ t b. implied (can_begin g xs (accepted_by t)) (can_end g xs) (may_follow p (accepted_by t)) (may_follow (part_at g n) (accepted_by t)) (and_parts _ _ (h t)).0
      (on_right (λ z. (z.0, k t z.1)) (begin_append g xs ys (accepted_by t) b))),
  fits_append g p xs ys (λ t. (and_parts _ _ (h t)).1) k f,
)

-- ---- steps

pub takes_begin : (g : Grammar) (e : Event) (xs d : List Symbol) → Takes g e xs d → can_begin g xs (accepted_by e.sign) ≡ true
takes_begin g e [] d k = absurd k
takes_begin g e (Terminal c w a ∷ xs) d k = k.0
takes_begin g e (Part n ∷ xs) d (inl k) = or_left _ _ (goes_here e.sign (part_at g n).ways k.0 k.1 k.2)
takes_begin g e (Part n ∷ xs) d (inr k) = or_right _ _ (and_from _ _ k.0 (takes_begin g e xs d k.1))

abbrev pub to : ℕ → List Symbol → Step
to act d = record { action = act; place = d }

to_same : (a b : ℕ) (xs ys : List Symbol) → a ≡ b → xs ≡ ys → to a xs ≡ to b ys
to_same a b xs ys h k = ap (λ z. to z xs) h ∙ ap (to b) k

if_taken : (b : Bool) (x y : Step) → b ≡ true → x ≡ y → (if b then Some x else None) ≡ Some y
if_taken true x y h e = ap Some e
if_taken false x y h e = absurd (cc h)

by_way : (o : Option Way) (m : Bool) (xs : List Symbol) (w : Way) (later : Option Step) (d : Step) → o ≡ Some w → to w.action (w.rest ++ xs) ≡ d → step_by o m xs later ≡ Some d
by_way o m xs w later d h e = rw h (ap Some e)

by_none : (o : Option Way) (m : Bool) (xs : List Symbol) (later : Option Step) (d : Step) → o ≡ None → m ≡ true → later ≡ Some d → step_by o m xs later ≡ Some d
by_none o m xs later d h e k = rw (h, e) k

unless : (b : Bool) → (b ≡ true → ⊥) → b ≡ false
unless true h = absurd (h refl)
unless false h = refl

-- a step that can be made is the reader's
pub takes_step : (g : Grammar) → Decided g → (e : Event) (xs d : List Symbol) → Fits g xs → Takes g e xs d → step g xs e.sign ≡ Some (to e.action d)
takes_step g s e [] d f k = absurd k
takes_step g s e (Terminal c w a ∷ xs) d f k = if_taken (accepts c e.sign) (to a xs) (to e.action d) k.0 (to_same a e.action xs d (sym k.1) (sym k.2))
takes_step g s e (Part n ∷ xs) d f (inl k) =
    by_way (way_by (part_at g n).ways e.sign) (part_at g n).optional xs k.0 (step g xs e.sign) (to e.action d) (one_way e.sign (part_at g n).ways k.0 k.1 k.2 (s.once n e.sign))
    (to_same k.0.action e.action (k.0.rest ++ xs) d (sym k.3) (sym k.4))
takes_step g s e (Part n ∷ xs) d f (inr k) =
    by_none (way_by (part_at g n).ways e.sign) (part_at g n).optional xs (step g xs e.sign) (to e.action d)
    (no_way e.sign (part_at g n).ways (unless (goes (part_at g n).ways (accepted_by e.sign)) (λ h. s.apart n e.sign k.0 h (f.0 e.sign (takes_begin g e xs d k.1))))) k.0
    (takes_step g s e xs d f.1 k.1)

by_step : (g : Grammar) (n : ℕ) (t : Sign) (xs : List Symbol) (d : Step) (o : Option Way) (m : Bool) → way_by (part_at g n).ways t ≡ o → (part_at g n).optional ≡ m
    → step_by o m xs (step g xs t) ≡ Some d → (step g xs t ≡ Some d → Takes g (event d.action t) xs d.place) → Takes g (event d.action t) (Part n ∷ xs) d.place
by_step g n t xs d (Some w) m e a h go =
    let k = chosen t (part_at g n).ways w e in
    let same = some_same (to w.action (w.rest ++ xs)) d h in
    inl (w, k.0, k.1, sym (ap (λ (z : Step). z.action) same), sym (ap (λ (z : Step). z.place) same))
by_step g n t xs d None true e a h go = inr (a, go h)
by_step g n t xs d None false e a h go = absurd (cc h)

if_step : (b : Bool) (x d : Step) → (if b then Some x else None) ≡ Some d → (b ≡ true) × (x ≡ d)
if_step true x d h = (refl, some_same x d h)
if_step false x d h = absurd (cc h)

-- the reader's step can be made
pub step_takes : (g : Grammar) (t : Sign) (xs : List Symbol) (d : Step) → step g xs t ≡ Some d → Takes g (event d.action t) xs d.place
step_takes g t [] d h = absurd (cc h)
step_takes g t (Terminal c w a ∷ xs) d h =
    let k = if_step (accepts c t) (to a xs) d h in
    (k.0, sym (ap (λ (z : Step). z.action) k.1), sym (ap (λ (z : Step). z.place) k.1))
step_takes g t (Part n ∷ xs) d h = by_step g n t xs d (way_by (part_at g n).ways t) (part_at g n).optional refl refl h (step_takes g t xs d)

-- it leads to a place of that kind
pub takes_fits : (g : Grammar) → Decided g → (e : Event) (xs d : List Symbol) → Fits g xs → Takes g e xs d → Fits g d
takes_fits g s e [] d f k = absurd k
takes_fits g s e (Terminal c w a ∷ xs) d f k = subst (λ (z : List Symbol). Fits g z) (sym k.2) f
takes_fits g s e (Part n ∷ xs) d f (inl k) =
    subst (λ (z : List Symbol). Fits g z) (sym k.4) (fits_append g (part_at g n) k.0.rest xs (s.follow n k.0 k.1) f.0 f.1)
takes_fits g s e (Part n ∷ xs) d f (inr k) = takes_fits g s e xs d f.1 k.1

-- one token makes one step
pub one_step : (g : Grammar) → Decided g → (e i : Event) (xs d m : List Symbol) → Fits g xs → Takes g e xs d → Takes g i xs m → e.sign ≡ i.sign → to e.action d ≡ to i.action m
one_step g s e i xs d m f h k t = some_same (to e.action d) (to i.action m) (sym (takes_step g s e xs d f h) ∙ ap (step g xs) t ∙ takes_step g s i xs m f k)
