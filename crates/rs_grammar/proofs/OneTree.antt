-- Tokens have one tree at most.
use Rattle.std.proofs.Common.{◌≡◌, ℕ, List, [], ◌∷◌, ◌++◌, Bool, true, false, not, if◌then◌else◌, refl, sym, ap, ◌∙◌, subst, ◌⊎◌, inl, inr, append_assoc, append-nil}
use Rattle.rs_grammar.specs.declared.symbols.Symbol.{Symbol}
use Rattle.rs_grammar.specs.declared.symbols.Symbol.TheVariants.{Terminal, Part}
use Rattle.rs_text.specs.Signs.{Sign}
use Rattle.rs_grammar.specs.Classes.{accepts}
use Rattle.rs_grammar.specs.Grammar.{Grammar, Way, part_at, IsOneOf}
use Rattle.rs_grammar.specs.Tests.{accepted_by, goes, goes_once}
use Rattle.rs_grammar.specs.Trees.{Event, Trees, none, leaf, missing, node, AreOf, events_of, signs_in, SpellsAs}
use Rattle.rs_grammar.proofs.Deciding.{Decided, Fits, fits_append, goes_here, not_and, takes_begin}
use Rattle.rs_grammar.proofs.Spelling.{Derives, cons_same, sound}
use Rattle.rs_grammar.specs.Readings.{event}

if_same : (b : Bool) (t : Sign) (x : Way) (xs : List Way) (w v : Way) → accepts x.first t ≡ b → (w ≡ x) ⊎ IsOneOf w xs → (v ≡ x) ⊎ IsOneOf v xs → accepts w.first t ≡ true → accepts v.first t ≡ true
    → (if b then not (goes xs (accepted_by t)) else goes_once xs (accepted_by t)) ≡ true → (IsOneOf w xs → IsOneOf v xs → goes_once xs (accepted_by t) ≡ true → w ≡ v) → w ≡ v
if_same true t x xs w v e (inl i) (inl j) a b h go = i ∙ sym j
if_same true t x xs w v e (inl i) (inr j) a b h go = absurd (not_and (goes xs (accepted_by t)) h (goes_here t xs v j b))
if_same true t x xs w v e (inr i) j a b h go = absurd (not_and (goes xs (accepted_by t)) h (goes_here t xs w i a))
if_same false t x xs w v e (inl i) j a b h go = absurd (cc (sym e ∙ subst (λ (z : Way). accepts z.first t ≡ true) i a))
if_same false t x xs w v e (inr i) (inl j) a b h go = absurd (cc (sym e ∙ subst (λ (z : Way). accepts z.first t ≡ true) j b))
if_same false t x xs w v e (inr i) (inr j) a b h go = go i j h

same_way : (t : Sign) (ws : List Way) (w v : Way) → IsOneOf w ws → IsOneOf v ws → accepts w.first t ≡ true → accepts v.first t ≡ true → goes_once ws (accepted_by t) ≡ true → w ≡ v
same_way t [] w v i j a b h = absurd i
same_way t (x ∷ xs) w v i j a b h = if_same (accepts x.first t) t x xs w v refl i j a b h (λ i j h. same_way t xs w v i j a b h)

-- a part isn't missing where one of its ways can begin
not_missing : (g : Grammar) → Decided g → (n : ℕ) (t : Sign) (xs : List Symbol) (es : List Event) (ts : List Sign) (w : Way) → Fits g (Part n ∷ xs) → (part_at g n).optional ≡ true → Derives g xs es
    → signs_in es ≡ t ∷ ts → IsOneOf w (part_at g n).ways → accepts w.first t ≡ true → ⊥
not_missing g s n t xs [] ts w f m d e i a = absurd (cc e)
not_missing g s n t xs (x ∷ es) ts w f m d e i a =
    let same = cons_same x.sign t (signs_in es) ts e in
    s.apart n x.sign m (goes_here x.sign (part_at g n).ways w i (subst (λ (z : Sign). accepts w.first z ≡ true) (sym same.0) a)) (f.0 x.sign (takes_begin g x xs d.0 d.1))

abbrev Same : (f e : Trees) (ds es : List Event) → Type 0
Same f e ds es = (f ≡ e) × (signs_in ds ≡ signs_in es)

event_of : (e i : Event) (a : ℕ) → e.action ≡ a → i.action ≡ a → e.sign ≡ i.sign → e ≡ i
event_of e i a h k t = ap (λ z. event z e.sign) (h ∙ sym k) ∙ ap (λ z. event i.action z) t

abbrev Alike : List Event → List Event → Type 0
Alike xs ys = signs_in xs ≡ signs_in ys

assoc_alike : (a b c x y z : List Event) → Alike ((a ++ b) ++ c) ((x ++ y) ++ z) → Alike (a ++ (b ++ c)) (x ++ (y ++ z))
assoc_alike a b c x y z h = ap signs_in (sym (append_assoc a b c)) ∙ h ∙ ap signs_in (append_assoc x y z)

one_row : (g : Grammar) → Decided g → (xs s : List Symbol) (f e : Trees) (ds es : List Event) → AreOf g xs f → AreOf g xs e → Fits g (xs ++ s) → Derives g s ds → Derives g s es
    → Alike (events_of f ++ ds) (events_of e ++ es) → Same f e ds es
one_row g r [] s none none ds es a b p d k h = (refl, h)
one_row g r (Terminal c w n ∷ xs) s (leaf i l) (leaf j m) ds es a b p d k h =
    let q = cons_same i.sign j.sign (signs_in (events_of l ++ ds)) (signs_in (events_of m ++ es)) h in
    let later = one_row g r xs s l m ds es a.2 b.2 p d k q.1 in
    (ap (λ z. leaf z l) (event_of i j n a.1 b.1 q.0) ∙ ap (λ z. leaf j z) later.0, later.1)
one_row g r (Part n ∷ xs) s (missing l) (missing m) ds es a b p d k h = let i = one_row g r xs s l m ds es a.1 b.1 p.1 d k h in (ap missing i.0, i.1)
one_row g r (Part n ∷ xs) s (missing l) (node w t j m) ds es a b p d k h =
    absurd (not_missing g r n t (xs ++ s) (events_of l ++ ds) (signs_in ((events_of j ++ events_of m) ++ es)) w p a.0 (sound g xs s l ds a.1 d) h b.0 b.1)
one_row g r (Part n ∷ xs) s (node w t j l) (missing m) ds es a b p d k h =
    absurd (not_missing g r n t (xs ++ s) (events_of m ++ es) (signs_in ((events_of j ++ events_of l) ++ ds)) w p b.0 (sound g xs s m es b.1 k) (sym h) a.0 a.1)
one_row g r (Part n ∷ xs) s (node w t i l) (node v u j m) ds es a b p d k h =
    let q = cons_same t u (signs_in ((events_of i ++ events_of l) ++ ds)) (signs_in ((events_of j ++ events_of m) ++ es)) h in
    let same : v ≡ w = same_way t (part_at g n).ways v w b.0 a.0 (subst (λ (z : Sign). accepts v.first z ≡ true) (sym q.0) b.1) a.1 (r.once n t) in
    let first = one_row g r w.rest (xs ++ s) i j (events_of l ++ ds) (events_of m ++ es) a.2 (subst (λ (z : Way). AreOf g z.rest j) same b.2)
    (fits_append g (part_at g n) w.rest (xs ++ s) (r.follow n w a.0) p.0 p.1) (sound g xs s l ds a.3 d) (sound g xs s m es b.3 k)
    (assoc_alike (events_of i) (events_of l) ds (events_of j) (events_of m) es q.1) in
    let later = one_row g r xs s l m ds es a.3 b.3 p.1 d k first.1 in
    (ap (λ z. node z t i l) (sym same) ∙ ap (λ z. node v z i l) q.0 ∙ ap (λ z. node v u z l) first.0 ∙ ap (λ z. node v u j z) later.0, later.1)
one_row g r [] s none _ ds es a b p d k h = absurd b
one_row g r (Terminal c w n ∷ xs) s (leaf i l) _ ds es a b p d k h = absurd b
one_row g r (Part n ∷ xs) s (missing l) _ ds es a b p d k h = absurd b
one_row g r (Part n ∷ xs) s (node w t i l) _ ds es a b p d k h = absurd b
one_row g r _ s _ _ ds es a b p d k h = absurd a

pub one_tree : (g : Grammar) → Decided g → (xs : List Symbol) (ts : List Sign) (f e : Trees) → Fits g xs → SpellsAs g xs ts f → SpellsAs g xs ts e → f ≡ e
one_tree g r xs ts f e p h k =
    (one_row g r xs [] f e [] [] h.0 k.0 (subst (λ (z : List Symbol). Fits g z) (sym (append-nil xs)) p) refl refl
    (ap signs_in (append-nil (events_of f)) ∙ sym h.1 ∙ k.1 ∙ ap signs_in (sym (append-nil (events_of e))))).0
