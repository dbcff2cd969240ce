-- What goes from a source to a sink: the pieces, and then that there are no more.
use Rattle.std.proofs.Common.{◌≡◌, ℕ, zero, suc, List, [], ◌∷◌, ◌++◌, map, Option, Some, None, slice_get, refl, sym, ap, ◌∙◌, subst, subst₂, append_assoc, append-nil, ◌-◌}
use Rattle.std.specs.List.{concat}
use Rattle.std.proofs.lemmas.List.{take-append-drop}
use Rattle.rs_model.specs.Data.{Machine_data}
use Rattle.rs_model.specs.declared.graph.Arm.{Arm}
use Rattle.rs_model.specs.declared.graph.Label.{Label}
use Rattle.rs_model.specs.declared.graph.Role.{Role}
use Rattle.rs_model.specs.declared.machines.State.{State}
use Rattle.rs_model.specs.declared.machines.State.TheVariants.{Done, Puts, Takes}
use Rattle.rs_model.specs.declared.values.Sort.TheVariants as sort
use Rattle.rs_model.specs.declared.values.Value.{Value}
use Rattle.rs_model.specs.declared.values.Value.TheVariants as value
use Rattle.rs_core.specs.Actors.{PlaysFrom}
use Rattle.rs_core.specs.declared.messages.Message.{Message}
use Rattle.rs_core.specs.Histories.{Sent, Got, History}
use Rattle.rs_core.proofs.Fifo.{sents, gots}
use Rattle.rs_demos.specs.Acting.{by_demo, talker_behind_value, piece_of, behind_piece}
use Rattle.rs_demos.specs.Results.{inverse_bytes}
use Rattle.rs_demos.specs.Sessions.{role, arm, double_kernel, double_source, double_sink, stream_source, stream_sink}
use Rattle.rs_demos.specs.declared.actors.DemoTalker.{DemoTalker}
use Rattle.rs_demos.specs.declared.actors.DemoTalker.TheVariants as actor
use Rattle.rs_demos.proofs.Playing.{sent_at, got_at, no_got, no_sent, nowhere, over, only_arm, First, Second, one_of, sents_cons, sents_skip, gots_cons, gots_skip}

abbrev pub label : ℕ → Label
label n = record { 0 = n }

abbrev pub piece_message : List ℕ → Message
piece_message p = record { label = label 1; value = value.Octets p }

abbrev pub stop_message : Message
stop_message = record { label = label 2; value = value.Unit }

-- the messages of a source: its pieces, and then `stop`
abbrev pub feed : List (List ℕ) → List Message
feed [] = stop_message ∷ []
feed (p ∷ ps) = piece_message p ∷ feed ps

-- the messages are those of the bytes, cut somehow
pub record Fed (bytes : List ℕ) (messages : List Message) : Type 0 where
  pub pieces : List (List ℕ)
  pub are : messages ≡ feed pieces
  pub joined : concat pieces ≡ bytes

-- a play that goes on at another state with another actor
abbrev pub Plays : Machine_data → ℕ → DemoTalker → History → ℕ → DemoTalker → Type 0
Plays m s x h t y = PlaysFrom by_demo m s x h t y

pub moved : (m : Machine_data) (s s' : ℕ) (x x' : DemoTalker) (h : History) (t : ℕ) (y : DemoTalker) → s ≡ s' → x ≡ x' → Plays m s' x' h t y → Plays m s x h t y
moved m s s' x x' h t y e f p = let P : ℕ → DemoTalker → Type 0 = λ i z. Plays m i z h t y in subst₂ P (sym e) (sym f) p

abbrev pub IsOver : Machine_data → ℕ → Type 0
IsOver m t = slice_get m.states t ≡ Some Done

goes_on : (m : Machine_data) (s t : ℕ) (st : State) → slice_get m.states s ≡ Some st → s ≡ t → IsOver m t → st ≡ Done
goes_on m s t st here e d =
    let P : ℕ → Type 0 = λ z. slice_get m.states z ≡ Some Done in
    let h : Some st ≡ Some Done = sym here ∙ subst P (sym e) d in
    cc (h)

pub zero_of : (q r : Role) → q ≡ r → r.0 ≡ q.0
zero_of q r e = ap (λ (z : Role). z.0) (sym e)

whole : (b : ℕ) (bs : List ℕ) (ps : List (List ℕ)) → concat ps ≡ behind_piece (b ∷ bs) → piece_of (b ∷ bs) ++ concat ps ≡ b ∷ bs
whole b bs ps e = ap (λ (z : List ℕ). piece_of (b ∷ bs) ++ z) e ∙ take-append-drop 4096 (b ∷ bs)

-- the source of double buffering

abbrev pub double_arms : List Arm
double_arms = arm 1 sort.Octets 0 ∷ arm 2 sort.Unit 2 ∷ []

abbrev SourceSays : ℕ → List ℕ → List Message → Type 0
SourceSays zero bytes messages = Fed bytes messages
SourceSays (suc zero) bytes messages = Fed bytes messages
SourceSays (suc (suc s)) bytes messages = messages ≡ []

source : (h : History) (s : ℕ) (bytes : List ℕ) (t : ℕ) (y : DemoTalker) → Plays double_source s (actor.Source bytes) h t y → IsOver double_source t
    → SourceSays s bytes (sents 0 h)
source [] zero bytes t y p d = absurd (let e = goes_on double_source 0 t (Takes (role 0) (arm 0 sort.Unit 1 ∷ [])) refl p.0 d in cc (e))
source [] (suc zero) bytes t y p d = absurd (let e = goes_on double_source 1 t (Puts (role 0) double_arms) refl p.0 d in cc (e))
source [] (suc (suc s)) bytes t y p d = refl
source (Sent r l v ∷ h) zero bytes t y p d = absurd (no_sent double_source 0 (actor.Source bytes) (arm 0 sort.Unit 1 ∷ []) (role 0) r l v p.0 p.1 refl p.2)
source (Got r l v ∷ h) zero bytes t y p d =
    let g = got_at double_source 0 (actor.Source bytes) (arm 0 sort.Unit 1 ∷ []) (role 0) r l v p.0 p.1 refl p.2 in
    let a = only_arm (arm 0 sort.Unit 1) g.arm g.place g.follows in
    let e : 1 ≡ p.0 = ap (λ (z : Arm). z.next) a ∙ g.goes in
    source h (suc zero) bytes t y (moved double_source 1 p.0 (actor.Source bytes) p.1 h t y e g.becomes p.3) d
source (Got r l v ∷ h) (suc zero) bytes t y p d = absurd (no_got double_source 1 (actor.Source bytes) double_arms (role 0) r l v p.0 p.1 refl p.2)
source (Sent r l v ∷ h) (suc zero) [] t y p d =
    let s = sent_at double_source 1 (actor.Source []) double_arms (role 0) r l v p.0 p.1 refl p.2 in
    let a : arm 2 sort.Unit 2 ≡ s.arm = cc (s.picks) in
    let e : 2 ≡ p.0 = ap (λ (z : Arm). z.next) a ∙ s.goes in
    let el : label 2 ≡ l = ap (λ (z : Arm). z.label) a ∙ s.label in
    let later : sents 0 h ≡ [] = source h (suc (suc zero)) [] t y (moved double_source 2 p.0 (actor.Source []) p.1 h t y e s.becomes p.3) d in
    let one : sents 0 (Sent r l v ∷ h) ≡ record { label = l; value = v } ∷ sents 0 h = sents_cons 0 r l v h (zero_of (role 0) r s.peer) in
    record { pieces = []; are = one ∙ cc (el, s.value, later); joined = refl }
source (Sent r l v ∷ h) (suc zero) (b ∷ bs) t y p d =
    let s = sent_at double_source 1 (actor.Source (b ∷ bs)) double_arms (role 0) r l v p.0 p.1 refl p.2 in
    let a : arm 1 sort.Octets 0 ≡ s.arm = cc (s.picks) in
    let e : 0 ≡ p.0 = ap (λ (z : Arm). z.next) a ∙ s.goes in
    let el : label 1 ≡ l = ap (λ (z : Arm). z.label) a ∙ s.label in
    let later : Fed (behind_piece (b ∷ bs)) (sents 0 h) = source h zero (behind_piece (b ∷ bs)) t y (moved double_source 0 p.0 (actor.Source (behind_piece (b ∷ bs))) p.1 h t y e s.becomes p.3) d in
    let one : sents 0 (Sent r l v ∷ h) ≡ record { label = l; value = v } ∷ sents 0 h = sents_cons 0 r l v h (zero_of (role 0) r s.peer) in
    record { pieces = piece_of (b ∷ bs) ∷ later.pieces; are = one ∙ cc (el, s.value, later.are); joined = whole b bs later.pieces later.joined }
source (Sent r l v ∷ h) (suc (suc zero)) bytes t y p d = absurd (no_sent double_source 2 (actor.Source bytes) (arm 0 sort.Unit 3 ∷ []) (role 0) r l v p.0 p.1 refl p.2)
source (Got r l v ∷ h) (suc (suc zero)) bytes t y p d =
    let g = got_at double_source 2 (actor.Source bytes) (arm 0 sort.Unit 3 ∷ []) (role 0) r l v p.0 p.1 refl p.2 in
    let a = only_arm (arm 0 sort.Unit 3) g.arm g.place g.follows in
    let e : 3 ≡ p.0 = ap (λ (z : Arm). z.next) a ∙ g.goes in
    source h (suc (suc (suc zero))) bytes t y (moved double_source 3 p.0 (actor.Source bytes) p.1 h t y e g.becomes p.3) d
source (a ∷ h) (suc (suc (suc zero))) bytes t y p d = absurd (over double_source 3 (actor.Source bytes) a p.0 p.1 refl p.2)
source (a ∷ h) (suc (suc (suc (suc s)))) bytes t y p d = absurd (nowhere double_source (suc (suc (suc (suc s)))) (actor.Source bytes) a p.0 p.1 refl p.2)

-- messages that say nothing but that they have come

abbrev pub AllUnit : List Message → Type 0
AllUnit [] = Unit {0}
AllUnit (m ∷ ms) = (m.value ≡ value.Unit) × AllUnit ms

front_unit : (xs ys : List Message) → AllUnit (xs ++ ys) → AllUnit xs
front_unit [] ys h = tt
front_unit (x ∷ xs) ys h = (h.0, front_unit xs ys h.1)

-- the kernel of double buffering

abbrev pub kernel_arms : List Arm
kernel_arms = arm 1 sort.Octets 4 ∷ arm 2 sort.Unit 5 ∷ []

-- what the kernel holds at a state
abbrev held_at : ℕ → List ℕ → Option (List ℕ)
held_at (suc (suc (suc (suc zero)))) piece = Some piece
held_at s piece = None

abbrev pub kernel_with : Option (List ℕ) → DemoTalker
kernel_with o = actor.Kernel (record { piece = o })

-- what the source has still to send to it there, of these pieces
abbrev KernelGets : ℕ → List (List ℕ) → List Message
KernelGets (suc (suc (suc (suc (suc s))))) ps = []
KernelGets s ps = feed ps

-- what it sends to the sink from there on
abbrev KernelSends : ℕ → List ℕ → List (List ℕ) → List Message
KernelSends (suc (suc (suc (suc zero)))) piece ps = piece_message piece ∷ feed (map inverse_bytes ps)
KernelSends (suc (suc (suc (suc (suc zero))))) piece ps = stop_message ∷ []
KernelSends (suc (suc (suc (suc (suc (suc s)))))) piece ps = []
KernelSends s piece ps = feed (map inverse_bytes ps)

pub not_two : (r : Role) → role 1 ≡ r → r.0 ≡ 2 → ⊥
not_two r e f = let g : 1 ≡ 2 = ap (λ (z : Role). z.0) e ∙ f in cc (g)

pub not_one : (r : Role) → role 2 ≡ r → r.0 ≡ 1 → ⊥
not_one r e f = let g : 2 ≡ 1 = ap (λ (z : Role). z.0) e ∙ f in cc (g)

unit_told : (v : Value) → v ≡ value.Unit → talker_behind_value (kernel_with None) v ≡ kernel_with None
unit_told v e = ap (λ (z : Value). talker_behind_value (kernel_with None) z) e

piece_told : (v : Value) (bytes : List ℕ) → v ≡ value.Octets bytes → talker_behind_value (kernel_with None) v ≡ kernel_with (Some (inverse_bytes bytes))
piece_told v bytes e = ap (λ (z : Value). talker_behind_value (kernel_with None) z) e

kernel : (h : History) (s : ℕ) (piece : List ℕ) (ps : List (List ℕ)) (later : List Message) (t : ℕ) (y : DemoTalker)
    → Plays double_kernel s (kernel_with (held_at s piece)) h t y → IsOver double_kernel t → AllUnit (gots 2 h)
    → gots 1 h ++ later ≡ KernelGets s ps → sents 2 h ≡ KernelSends s piece ps
kernel [] zero piece ps later t y p d u g = absurd (let e = goes_on double_kernel 0 t (Puts (role 1) (arm 0 sort.Unit 1 ∷ [])) refl p.0 d in cc (e))
kernel [] (suc zero) piece ps later t y p d u g = absurd (let e = goes_on double_kernel 1 t (Puts (role 1) (arm 0 sort.Unit 2 ∷ [])) refl p.0 d in cc (e))
kernel [] (suc (suc zero)) piece ps later t y p d u g = absurd (let e = goes_on double_kernel 2 t (Takes (role 2) (arm 0 sort.Unit 3 ∷ [])) refl p.0 d in cc (e))
kernel [] (suc (suc (suc zero))) piece ps later t y p d u g = absurd (let e = goes_on double_kernel 3 t (Takes (role 1) kernel_arms) refl p.0 d in cc (e))
kernel [] (suc (suc (suc (suc zero)))) piece ps later t y p d u g = absurd (let e = goes_on double_kernel 4 t (Puts (role 2) (arm 1 sort.Octets 1 ∷ [])) refl p.0 d in cc (e))
kernel [] (suc (suc (suc (suc (suc zero))))) piece ps later t y p d u g = absurd (let e = goes_on double_kernel 5 t (Puts (role 2) (arm 2 sort.Unit 6 ∷ [])) refl p.0 d in cc (e))
kernel [] (suc (suc (suc (suc (suc (suc s)))))) piece ps later t y p d u g = refl
kernel (Got r l v ∷ h) zero piece ps later t y p d u g = absurd (no_got double_kernel 0 (kernel_with None) (arm 0 sort.Unit 1 ∷ []) (role 1) r l v p.0 p.1 refl p.2)
kernel (Sent r l v ∷ h) zero piece ps later t y p d u g =
    let s = sent_at double_kernel 0 (kernel_with None) (arm 0 sort.Unit 1 ∷ []) (role 1) r l v p.0 p.1 refl p.2 in
    let a : arm 0 sort.Unit 1 ≡ s.arm = cc (s.picks) in
    let e : 1 ≡ p.0 = ap (λ (z : Arm). z.next) a ∙ s.goes in
    sents_skip 2 r l v h (not_two r s.peer) ∙ kernel h (suc zero) piece ps later t y (moved double_kernel 1 p.0 (kernel_with None) p.1 h t y e s.becomes p.3) d u g
kernel (Got r l v ∷ h) (suc zero) piece ps later t y p d u g = absurd (no_got double_kernel 1 (kernel_with None) (arm 0 sort.Unit 2 ∷ []) (role 1) r l v p.0 p.1 refl p.2)
kernel (Sent r l v ∷ h) (suc zero) piece ps later t y p d u g =
    let s = sent_at double_kernel 1 (kernel_with None) (arm 0 sort.Unit 2 ∷ []) (role 1) r l v p.0 p.1 refl p.2 in
    let a : arm 0 sort.Unit 2 ≡ s.arm = cc (s.picks) in
    let e : 2 ≡ p.0 = ap (λ (z : Arm). z.next) a ∙ s.goes in
    sents_skip 2 r l v h (not_two r s.peer) ∙ kernel h (suc (suc zero)) piece ps later t y (moved double_kernel 2 p.0 (kernel_with None) p.1 h t y e s.becomes p.3) d u g
kernel (Sent r l v ∷ h) (suc (suc zero)) piece ps later t y p d u g = absurd (no_sent double_kernel 2 (kernel_with None) (arm 0 sort.Unit 3 ∷ []) (role 2) r l v p.0 p.1 refl p.2)
kernel (Got r l v ∷ h) (suc (suc zero)) piece ps later t y p d u g =
    let s = got_at double_kernel 2 (kernel_with None) (arm 0 sort.Unit 3 ∷ []) (role 2) r l v p.0 p.1 refl p.2 in
    let a = only_arm (arm 0 sort.Unit 3) s.arm s.place s.follows in
    let e : 3 ≡ p.0 = ap (λ (z : Arm). z.next) a ∙ s.goes in
    let came : gots 2 (Got r l v ∷ h) ≡ record { label = l; value = v } ∷ gots 2 h = gots_cons 2 r l v h (zero_of (role 2) r s.peer) in
    let units = subst AllUnit came u in
    let skip : gots 1 (Got r l v ∷ h) ≡ gots 1 h = gots_skip 1 r l v h (not_one r s.peer) in
    let b : kernel_with None ≡ p.1 = sym (unit_told v units.0) ∙ s.becomes in
    kernel h (suc (suc (suc zero))) piece ps later t y (moved double_kernel 3 p.0 (kernel_with None) p.1 h t y e b p.3) d units.1
    (ap (λ (z : List Message). z ++ later) (sym skip) ∙ g)
kernel (Sent r l v ∷ h) (suc (suc (suc zero))) piece ps later t y p d u g = absurd (no_sent double_kernel 3 (kernel_with None) kernel_arms (role 1) r l v p.0 p.1 refl p.2)
kernel (Got r l v ∷ h) (suc (suc (suc zero))) piece [] later t y p d u g =
    let s = got_at double_kernel 3 (kernel_with None) kernel_arms (role 1) r l v p.0 p.1 refl p.2 in
    let came : gots 1 (Got r l v ∷ h) ≡ record { label = l; value = v } ∷ gots 1 h = gots_cons 1 r l v h (zero_of (role 1) r s.peer) in
    let skip : gots 2 (Got r l v ∷ h) ≡ gots 2 h = gots_skip 2 r l v h (not_two r s.peer) in
    let f : record { label = l; value = v } ∷ (gots 1 h ++ later) ≡ stop_message ∷ [] = ap (λ (z : List Message). z ++ later) (sym came) ∙ g in
    let hd : record { label = l; value = v } ≡ stop_message = cc (f) in
    let el : l ≡ label 2 = ap (λ (m : Message). m.label) hd in
    let ev : v ≡ value.Unit = ap (λ (m : Message). m.value) hd in
    let rest : gots 1 h ++ later ≡ [] = cc (f) in
    let b : kernel_with None ≡ p.1 = sym (unit_told v ev) ∙ s.becomes in
    elim (one_of (arm 1 sort.Octets 4) (arm 2 sort.Unit 5) s.arm s.place s.follows) [
      | First a ↦ absurd (let k : 1 ≡ 2 = ap (λ (z : Label). z.0) (ap (λ (z : Arm). z.label) a ∙ s.label ∙ el) in cc (k))
      | Second a ↦ (let e : 5 ≡ p.0 = ap (λ (z : Arm). z.next) a ∙ s.goes in
          kernel h (suc (suc (suc (suc (suc zero))))) piece [] later t y (moved double_kernel 5 p.0 (kernel_with None) p.1 h t y e b p.3) d (subst AllUnit skip u) rest)
    ]
kernel (Got r l v ∷ h) (suc (suc (suc zero))) piece (q ∷ ps) later t y p d u g =
    let s = got_at double_kernel 3 (kernel_with None) kernel_arms (role 1) r l v p.0 p.1 refl p.2 in
    let came : gots 1 (Got r l v ∷ h) ≡ record { label = l; value = v } ∷ gots 1 h = gots_cons 1 r l v h (zero_of (role 1) r s.peer) in
    let skip : gots 2 (Got r l v ∷ h) ≡ gots 2 h = gots_skip 2 r l v h (not_two r s.peer) in
    let f : record { label = l; value = v } ∷ (gots 1 h ++ later) ≡ piece_message q ∷ feed ps = ap (λ (z : List Message). z ++ later) (sym came) ∙ g in
    let hd : record { label = l; value = v } ≡ piece_message q = cc (f) in
    let el : l ≡ label 1 = ap (λ (m : Message). m.label) hd in
    let ev : v ≡ value.Octets q = ap (λ (m : Message). m.value) hd in
    let rest : gots 1 h ++ later ≡ feed ps = cc (f) in
    let b : kernel_with (Some (inverse_bytes q)) ≡ p.1 = sym (piece_told v q ev) ∙ s.becomes in
    elim (one_of (arm 1 sort.Octets 4) (arm 2 sort.Unit 5) s.arm s.place s.follows) [
      | First a ↦ (let e : 4 ≡ p.0 = ap (λ (z : Arm). z.next) a ∙ s.goes in
          kernel h (suc (suc (suc (suc zero)))) (inverse_bytes q) ps later t y (moved double_kernel 4 p.0 (kernel_with (Some (inverse_bytes q))) p.1 h t y e b p.3) d (subst AllUnit skip u) rest)
      | Second a ↦ absurd (let k : 2 ≡ 1 = ap (λ (z : Label). z.0) (ap (λ (z : Arm). z.label) a ∙ s.label ∙ el) in cc (k))
    ]
kernel (Got r l v ∷ h) (suc (suc (suc (suc zero)))) piece ps later t y p d u g =
    absurd (no_got double_kernel 4 (kernel_with (Some piece)) (arm 1 sort.Octets 1 ∷ []) (role 2) r l v p.0 p.1 refl p.2)
kernel (Sent r l v ∷ h) (suc (suc (suc (suc zero)))) piece ps later t y p d u g =
    let s = sent_at double_kernel 4 (kernel_with (Some piece)) (arm 1 sort.Octets 1 ∷ []) (role 2) r l v p.0 p.1 refl p.2 in
    let a : arm 1 sort.Octets 1 ≡ s.arm = cc (s.picks) in
    let e : 1 ≡ p.0 = ap (λ (z : Arm). z.next) a ∙ s.goes in
    let el : label 1 ≡ l = ap (λ (z : Arm). z.label) a ∙ s.label in
    let on : sents 2 h ≡ feed (map inverse_bytes ps) = kernel h (suc zero) piece ps later t y (moved double_kernel 1 p.0 (kernel_with None) p.1 h t y e s.becomes p.3) d u g in
    sents_cons 2 r l v h (zero_of (role 2) r s.peer) ∙ cc (el, s.value, on)
kernel (Got r l v ∷ h) (suc (suc (suc (suc (suc zero))))) piece ps later t y p d u g =
    absurd (no_got double_kernel 5 (kernel_with None) (arm 2 sort.Unit 6 ∷ []) (role 2) r l v p.0 p.1 refl p.2)
kernel (Sent r l v ∷ h) (suc (suc (suc (suc (suc zero))))) piece ps later t y p d u g =
    let s = sent_at double_kernel 5 (kernel_with None) (arm 2 sort.Unit 6 ∷ []) (role 2) r l v p.0 p.1 refl p.2 in
    let a : arm 2 sort.Unit 6 ≡ s.arm = cc (s.picks) in
    let e : 6 ≡ p.0 = ap (λ (z : Arm). z.next) a ∙ s.goes in
    let el : label 2 ≡ l = ap (λ (z : Arm). z.label) a ∙ s.label in
    let on : sents 2 h ≡ [] = kernel h (suc (suc (suc (suc (suc (suc zero)))))) piece ps later t y (moved double_kernel 6 p.0 (kernel_with None) p.1 h t y e s.becomes p.3) d u g in
    sents_cons 2 r l v h (zero_of (role 2) r s.peer) ∙ cc (el, s.value, on)
kernel (a ∷ h) (suc (suc (suc (suc (suc (suc zero)))))) piece ps later t y p d u g = absurd (over double_kernel 6 (kernel_with None) a p.0 p.1 refl p.2)
kernel (a ∷ h) (suc (suc (suc (suc (suc (suc (suc s))))))) piece ps later t y p d u g =
    absurd (nowhere double_kernel (suc (suc (suc (suc (suc (suc (suc s))))))) (kernel_with None) a p.0 p.1 refl p.2)

-- the sink of both

abbrev pub sink_arms : List Arm
sink_arms = arm 1 sort.Octets 0 ∷ arm 2 sort.Unit 2 ∷ []

-- role p as a sink
abbrev pub sink_machine : ℕ → Machine_data
sink_machine p = record { role = role p; states = Puts (role 0) (arm 0 sort.Unit 1 ∷ []) ∷ Takes (role 0) sink_arms ∷ Done ∷ []; start = 0 }

sink_stays : (bytes : List ℕ) (v : Value) → (z : List ℕ) × (talker_behind_value (actor.Sink bytes) v ≡ actor.Sink z)
sink_stays bytes value.Unit = (bytes, refl)
sink_stays bytes (value.Flag b) = (bytes, refl)
sink_stays bytes (value.Natural n) = (bytes, refl)
sink_stays bytes (value.Whole z) = (bytes, refl)
sink_stays bytes (value.Octets piece) = (bytes ++ piece, refl)
sink_stays bytes (value.Numbers zs) = (bytes, refl)

-- it sends nothing but that it is ready
asks : (h : History) (p s : ℕ) (bytes : List ℕ) (t : ℕ) (y : DemoTalker) → Plays (sink_machine p) s (actor.Sink bytes) h t y → AllUnit (sents 0 h)
asks [] p s bytes t y pl = tt
asks (Got r l v ∷ h) p zero bytes t y pl = absurd (no_got (sink_machine p) 0 (actor.Sink bytes) (arm 0 sort.Unit 1 ∷ []) (role 0) r l v pl.0 pl.1 refl pl.2)
asks (Sent r l v ∷ h) p zero bytes t y pl =
    let s = sent_at (sink_machine p) 0 (actor.Sink bytes) (arm 0 sort.Unit 1 ∷ []) (role 0) r l v pl.0 pl.1 refl pl.2 in
    let on : AllUnit (sents 0 h) = asks h p pl.0 bytes t y (moved (sink_machine p) pl.0 pl.0 (actor.Sink bytes) pl.1 h t y refl s.becomes pl.3) in
    let one : sents 0 (Sent r l v ∷ h) ≡ record { label = l; value = v } ∷ sents 0 h = sents_cons 0 r l v h (zero_of (role 0) r s.peer) in
    subst AllUnit (sym one) (sym s.value, on)
asks (Sent r l v ∷ h) p (suc zero) bytes t y pl = absurd (no_sent (sink_machine p) 1 (actor.Sink bytes) sink_arms (role 0) r l v pl.0 pl.1 refl pl.2)
asks (Got r l v ∷ h) p (suc zero) bytes t y pl =
    let s = got_at (sink_machine p) 1 (actor.Sink bytes) sink_arms (role 0) r l v pl.0 pl.1 refl pl.2 in
    let z = sink_stays bytes v in
    asks h p pl.0 z.0 t y (moved (sink_machine p) pl.0 pl.0 (actor.Sink z.0) pl.1 h t y refl (sym z.1 ∙ s.becomes) pl.3)
asks (a ∷ h) p (suc (suc zero)) bytes t y pl = absurd (over (sink_machine p) 2 (actor.Sink bytes) a pl.0 pl.1 refl pl.2)
asks (a ∷ h) p (suc (suc (suc s))) bytes t y pl = absurd (nowhere (sink_machine p) (suc (suc (suc s))) (actor.Sink bytes) a pl.0 pl.1 refl pl.2)

abbrev SinkGets : ℕ → List (List ℕ) → List Message
SinkGets (suc (suc s)) ps = []
SinkGets s ps = feed ps

abbrev sink_bytes : ℕ → List ℕ → List (List ℕ) → List ℕ
sink_bytes (suc (suc s)) bytes ps = bytes
sink_bytes s bytes ps = bytes ++ concat ps

-- it joins the pieces that come
sink : (h : History) (p s : ℕ) (bytes : List ℕ) (ps : List (List ℕ)) (later : List Message) (t : ℕ) (y : DemoTalker)
    → Plays (sink_machine p) s (actor.Sink bytes) h t y → IsOver (sink_machine p) t → gots 0 h ++ later ≡ SinkGets s ps
    → actor.Sink (sink_bytes s bytes ps) ≡ y
sink [] p zero bytes ps later t y pl d g = absurd (let e = goes_on (sink_machine p) 0 t (Puts (role 0) (arm 0 sort.Unit 1 ∷ [])) refl pl.0 d in cc (e))
sink [] p (suc zero) bytes ps later t y pl d g = absurd (let e = goes_on (sink_machine p) 1 t (Takes (role 0) sink_arms) refl pl.0 d in cc (e))
sink [] p (suc (suc s)) bytes ps later t y pl d g = pl.1
sink (Got r l v ∷ h) p zero bytes ps later t y pl d g = absurd (no_got (sink_machine p) 0 (actor.Sink bytes) (arm 0 sort.Unit 1 ∷ []) (role 0) r l v pl.0 pl.1 refl pl.2)
sink (Sent r l v ∷ h) p zero bytes ps later t y pl d g =
    let s = sent_at (sink_machine p) 0 (actor.Sink bytes) (arm 0 sort.Unit 1 ∷ []) (role 0) r l v pl.0 pl.1 refl pl.2 in
    let a : arm 0 sort.Unit 1 ≡ s.arm = cc (s.picks) in
    let e : 1 ≡ pl.0 = ap (λ (z : Arm). z.next) a ∙ s.goes in
    sink h p (suc zero) bytes ps later t y (moved (sink_machine p) 1 pl.0 (actor.Sink bytes) pl.1 h t y e s.becomes pl.3) d g
sink (Sent r l v ∷ h) p (suc zero) bytes ps later t y pl d g = absurd (no_sent (sink_machine p) 1 (actor.Sink bytes) sink_arms (role 0) r l v pl.0 pl.1 refl pl.2)
sink (Got r l v ∷ h) p (suc zero) bytes [] later t y pl d g =
    let s = got_at (sink_machine p) 1 (actor.Sink bytes) sink_arms (role 0) r l v pl.0 pl.1 refl pl.2 in
    let came : gots 0 (Got r l v ∷ h) ≡ record { label = l; value = v } ∷ gots 0 h = gots_cons 0 r l v h (zero_of (role 0) r s.peer) in
    let f : record { label = l; value = v } ∷ (gots 0 h ++ later) ≡ stop_message ∷ [] = ap (λ (z : List Message). z ++ later) (sym came) ∙ g in
    let hd : record { label = l; value = v } ≡ stop_message = cc (f) in
    let el : l ≡ label 2 = ap (λ (m : Message). m.label) hd in
    let ev : v ≡ value.Unit = ap (λ (m : Message). m.value) hd in
    let rest : gots 0 h ++ later ≡ [] = cc (f) in
    let b : actor.Sink bytes ≡ pl.1 = ap (λ (z : Value). talker_behind_value (actor.Sink bytes) z) (sym ev) ∙ s.becomes in
    elim (one_of (arm 1 sort.Octets 0) (arm 2 sort.Unit 2) s.arm s.place s.follows) [
      | First a ↦ absurd (let k : 1 ≡ 2 = ap (λ (z : Label). z.0) (ap (λ (z : Arm). z.label) a ∙ s.label ∙ el) in cc (k))
      | Second a ↦ (let e : 2 ≡ pl.0 = ap (λ (z : Arm). z.next) a ∙ s.goes in
          ap (λ (z : List ℕ). actor.Sink z) (append-nil bytes)
          ∙ sink h p (suc (suc zero)) bytes [] later t y (moved (sink_machine p) 2 pl.0 (actor.Sink bytes) pl.1 h t y e b pl.3) d rest)
    ]
sink (Got r l v ∷ h) p (suc zero) bytes (q ∷ ps) later t y pl d g =
    let s = got_at (sink_machine p) 1 (actor.Sink bytes) sink_arms (role 0) r l v pl.0 pl.1 refl pl.2 in
    let came : gots 0 (Got r l v ∷ h) ≡ record { label = l; value = v } ∷ gots 0 h = gots_cons 0 r l v h (zero_of (role 0) r s.peer) in
    let f : record { label = l; value = v } ∷ (gots 0 h ++ later) ≡ piece_message q ∷ feed ps = ap (λ (z : List Message). z ++ later) (sym came) ∙ g in
    let hd : record { label = l; value = v } ≡ piece_message q = cc (f) in
    let el : l ≡ label 1 = ap (λ (m : Message). m.label) hd in
    let ev : v ≡ value.Octets q = ap (λ (m : Message). m.value) hd in
    let rest : gots 0 h ++ later ≡ feed ps = cc (f) in
    let b : actor.Sink (bytes ++ q) ≡ pl.1 = ap (λ (z : Value). talker_behind_value (actor.Sink bytes) z) (sym ev) ∙ s.becomes in
    elim (one_of (arm 1 sort.Octets 0) (arm 2 sort.Unit 2) s.arm s.place s.follows) [
      | First a ↦ (let e : 0 ≡ pl.0 = ap (λ (z : Arm). z.next) a ∙ s.goes in
          ap (λ (z : List ℕ). actor.Sink z) (sym (append_assoc bytes q (concat ps)))
          ∙ sink h p zero (bytes ++ q) ps later t y (moved (sink_machine p) 0 pl.0 (actor.Sink (bytes ++ q)) pl.1 h t y e b pl.3) d rest)
      | Second a ↦ absurd (let k : 2 ≡ 1 = ap (λ (z : Label). z.0) (ap (λ (z : Arm). z.label) a ∙ s.label ∙ el) in cc (k))
    ]
sink (a ∷ h) p (suc (suc zero)) bytes ps later t y pl d g = absurd (over (sink_machine p) 2 (actor.Sink bytes) a pl.0 pl.1 refl pl.2)
sink (a ∷ h) p (suc (suc (suc s))) bytes ps later t y pl d g = absurd (nowhere (sink_machine p) (suc (suc (suc s))) (actor.Sink bytes) a pl.0 pl.1 refl pl.2)

-- the source of the stream

abbrev pub stream_arms : List Arm
stream_arms = arm 1 sort.Octets 1 ∷ arm 2 sort.Unit 3 ∷ []

abbrev StreamSays : ℕ → List ℕ → List Message → Type 0
StreamSays zero bytes messages = Fed bytes messages
StreamSays (suc zero) bytes messages = Fed bytes messages
StreamSays (suc (suc zero)) bytes messages = Fed bytes messages
StreamSays (suc (suc (suc s))) bytes messages = messages ≡ []

stream : (h : History) (s : ℕ) (bytes : List ℕ) (t : ℕ) (y : DemoTalker) → Plays stream_source s (actor.Source bytes) h t y → IsOver stream_source t
    → StreamSays s bytes (sents 1 h)
stream [] zero bytes t y p d = absurd (let e = goes_on stream_source 0 t (Puts (role 1) (arm 1 sort.Octets 1 ∷ [])) refl p.0 d in cc (e))
stream [] (suc zero) bytes t y p d = absurd (let e = goes_on stream_source 1 t (Takes (role 1) (arm 0 sort.Unit 2 ∷ [])) refl p.0 d in cc (e))
stream [] (suc (suc zero)) bytes t y p d = absurd (let e = goes_on stream_source 2 t (Puts (role 1) stream_arms) refl p.0 d in cc (e))
stream [] (suc (suc (suc s))) bytes t y p d = refl
stream (Got r l v ∷ h) zero bytes t y p d = absurd (no_got stream_source 0 (actor.Source bytes) (arm 1 sort.Octets 1 ∷ []) (role 1) r l v p.0 p.1 refl p.2)
stream (Sent r l v ∷ h) zero [] t y p d =
    let s = sent_at stream_source 0 (actor.Source []) (arm 1 sort.Octets 1 ∷ []) (role 1) r l v p.0 p.1 refl p.2 in
    let a : arm 1 sort.Octets 1 ≡ s.arm = cc (s.picks) in
    let e : 1 ≡ p.0 = ap (λ (z : Arm). z.next) a ∙ s.goes in
    let el : label 1 ≡ l = ap (λ (z : Arm). z.label) a ∙ s.label in
    let later : Fed [] (sents 1 h) = stream h (suc zero) [] t y (moved stream_source 1 p.0 (actor.Source []) p.1 h t y e s.becomes p.3) d in
    let one : sents 1 (Sent r l v ∷ h) ≡ record { label = l; value = v } ∷ sents 1 h = sents_cons 1 r l v h (zero_of (role 1) r s.peer) in
    record { pieces = [] ∷ later.pieces; are = one ∙ cc (el, s.value, later.are); joined = later.joined }
stream (Sent r l v ∷ h) zero (b ∷ bs) t y p d =
    let s = sent_at stream_source 0 (actor.Source (b ∷ bs)) (arm 1 sort.Octets 1 ∷ []) (role 1) r l v p.0 p.1 refl p.2 in
    let a : arm 1 sort.Octets 1 ≡ s.arm = cc (s.picks) in
    let e : 1 ≡ p.0 = ap (λ (z : Arm). z.next) a ∙ s.goes in
    let el : label 1 ≡ l = ap (λ (z : Arm). z.label) a ∙ s.label in
    let later : Fed (behind_piece (b ∷ bs)) (sents 1 h) = stream h (suc zero) (behind_piece (b ∷ bs)) t y (moved stream_source 1 p.0 (actor.Source (behind_piece (b ∷ bs))) p.1 h t y e s.becomes p.3)
    d in
    let one : sents 1 (Sent r l v ∷ h) ≡ record { label = l; value = v } ∷ sents 1 h = sents_cons 1 r l v h (zero_of (role 1) r s.peer) in
    record { pieces = piece_of (b ∷ bs) ∷ later.pieces; are = one ∙ cc (el, s.value, later.are); joined = whole b bs later.pieces later.joined }
stream (Sent r l v ∷ h) (suc zero) bytes t y p d = absurd (no_sent stream_source 1 (actor.Source bytes) (arm 0 sort.Unit 2 ∷ []) (role 1) r l v p.0 p.1 refl p.2)
stream (Got r l v ∷ h) (suc zero) bytes t y p d =
    let g = got_at stream_source 1 (actor.Source bytes) (arm 0 sort.Unit 2 ∷ []) (role 1) r l v p.0 p.1 refl p.2 in
    let a = only_arm (arm 0 sort.Unit 2) g.arm g.place g.follows in
    let e : 2 ≡ p.0 = ap (λ (z : Arm). z.next) a ∙ g.goes in
    stream h (suc (suc zero)) bytes t y (moved stream_source 2 p.0 (actor.Source bytes) p.1 h t y e g.becomes p.3) d
stream (Got r l v ∷ h) (suc (suc zero)) bytes t y p d = absurd (no_got stream_source 2 (actor.Source bytes) stream_arms (role 1) r l v p.0 p.1 refl p.2)
stream (Sent r l v ∷ h) (suc (suc zero)) [] t y p d =
    let s = sent_at stream_source 2 (actor.Source []) stream_arms (role 1) r l v p.0 p.1 refl p.2 in
    let a : arm 2 sort.Unit 3 ≡ s.arm = cc (s.picks) in
    let e : 3 ≡ p.0 = ap (λ (z : Arm). z.next) a ∙ s.goes in
    let el : label 2 ≡ l = ap (λ (z : Arm). z.label) a ∙ s.label in
    let later : sents 1 h ≡ [] = stream h (suc (suc (suc zero))) [] t y (moved stream_source 3 p.0 (actor.Source []) p.1 h t y e s.becomes p.3) d in
    let one : sents 1 (Sent r l v ∷ h) ≡ record { label = l; value = v } ∷ sents 1 h = sents_cons 1 r l v h (zero_of (role 1) r s.peer) in
    record { pieces = []; are = one ∙ cc (el, s.value, later); joined = refl }
stream (Sent r l v ∷ h) (suc (suc zero)) (b ∷ bs) t y p d =
    let s = sent_at stream_source 2 (actor.Source (b ∷ bs)) stream_arms (role 1) r l v p.0 p.1 refl p.2 in
    let a : arm 1 sort.Octets 1 ≡ s.arm = cc (s.picks) in
    let e : 1 ≡ p.0 = ap (λ (z : Arm). z.next) a ∙ s.goes in
    let el : label 1 ≡ l = ap (λ (z : Arm). z.label) a ∙ s.label in
    let later : Fed (behind_piece (b ∷ bs)) (sents 1 h) = stream h (suc zero) (behind_piece (b ∷ bs)) t y (moved stream_source 1 p.0 (actor.Source (behind_piece (b ∷ bs))) p.1 h t y e s.becomes p.3)
    d in
    let one : sents 1 (Sent r l v ∷ h) ≡ record { label = l; value = v } ∷ sents 1 h = sents_cons 1 r l v h (zero_of (role 1) r s.peer) in
    record { pieces = piece_of (b ∷ bs) ∷ later.pieces; are = one ∙ cc (el, s.value, later.are); joined = whole b bs later.pieces later.joined }
stream (Sent r l v ∷ h) (suc (suc (suc zero))) bytes t y p d = absurd (no_sent stream_source 3 (actor.Source bytes) (arm 0 sort.Unit 4 ∷ []) (role 1) r l v p.0 p.1 refl p.2)
stream (Got r l v ∷ h) (suc (suc (suc zero))) bytes t y p d =
    let g = got_at stream_source 3 (actor.Source bytes) (arm 0 sort.Unit 4 ∷ []) (role 1) r l v p.0 p.1 refl p.2 in
    let a = only_arm (arm 0 sort.Unit 4) g.arm g.place g.follows in
    let e : 4 ≡ p.0 = ap (λ (z : Arm). z.next) a ∙ g.goes in
    stream h (suc (suc (suc (suc zero)))) bytes t y (moved stream_source 4 p.0 (actor.Source bytes) p.1 h t y e g.becomes p.3) d
stream (a ∷ h) (suc (suc (suc (suc zero)))) bytes t y p d = absurd (over stream_source 4 (actor.Source bytes) a p.0 p.1 refl p.2)
stream (a ∷ h) (suc (suc (suc (suc (suc s))))) bytes t y p d = absurd (nowhere stream_source (suc (suc (suc (suc (suc s))))) (actor.Source bytes) a p.0 p.1 refl p.2)

-- both sessions

inverted_append : (xs ys : List ℕ) → inverse_bytes (xs ++ ys) ≡ inverse_bytes xs ++ inverse_bytes ys
inverted_append [] ys = refl
inverted_append (x ∷ xs) ys = ap (λ (z : List ℕ). (255 - x) ∷ z) (inverted_append xs ys)

inverted_concat : (ps : List (List ℕ)) → concat (map inverse_bytes ps) ≡ inverse_bytes (concat ps)
inverted_concat [] = refl
inverted_concat (p ∷ ps) = ap (λ (z : List ℕ). inverse_bytes p ++ z) (inverted_concat ps) ∙ sym (inverted_append p (concat ps))

pub double_computes : (bytes : List ℕ) (hk hs ht : History) (k s t : ℕ) (yk ys yt : DemoTalker) (from_source from_kernel from_sink : List Message)
    → Plays double_kernel 0 (kernel_with None) hk k yk → IsOver double_kernel k
    → Plays double_source 0 (actor.Source bytes) hs s ys → IsOver double_source s
    → Plays double_sink 0 (actor.Sink []) ht t yt → IsOver double_sink t
    → gots 1 hk ++ from_source ≡ sents 0 hs → gots 0 ht ++ from_kernel ≡ sents 2 hk → gots 2 hk ++ from_sink ≡ sents 0 ht
    → actor.Sink (inverse_bytes bytes) ≡ yt
double_computes bytes hk hs ht k s t yk ys yt from_source from_kernel from_sink pk dk ps ds pt dt one two three =
    let fed : Fed bytes (sents 0 hs) = source hs zero bytes s ys ps ds in
    let units : AllUnit (gots 2 hk) = front_unit (gots 2 hk) from_sink (subst AllUnit (sym three) (asks ht 2 0 [] t yt pt)) in
    let sent : sents 2 hk ≡ feed (map inverse_bytes fed.pieces) = kernel hk zero [] fed.pieces from_source k yk pk dk units (one ∙ fed.are) in
    let got = sink ht 2 zero [] (map inverse_bytes fed.pieces) from_kernel t yt pt dt (two ∙ sent) in
    ap (λ (z : List ℕ). actor.Sink z) (ap inverse_bytes (sym fed.joined) ∙ sym (inverted_concat fed.pieces)) ∙ got

pub stream_computes : (bytes : List ℕ) (hs ht : History) (s t : ℕ) (ys yt : DemoTalker) (from_source : List Message)
    → Plays stream_source 0 (actor.Source bytes) hs s ys → IsOver stream_source s
    → Plays stream_sink 0 (actor.Sink []) ht t yt → IsOver stream_sink t
    → gots 0 ht ++ from_source ≡ sents 1 hs
    → actor.Sink bytes ≡ yt
stream_computes bytes hs ht s t ys yt from_source ps ds pt dt one =
    let fed : Fed bytes (sents 1 hs) = stream hs zero bytes s ys ps ds in
    let got = sink ht 1 zero [] fed.pieces from_source t yt pt dt (one ∙ fed.are) in
    ap (λ (z : List ℕ). actor.Sink z) (sym fed.joined) ∙ got
