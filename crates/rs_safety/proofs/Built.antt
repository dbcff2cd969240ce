-- The path, grown to any length, and what it says of the start.
use Rattle.std.proofs.Common.{◌≡◌, ◌⊎◌, inl, inr, ℕ, zero, suc, ◌+◌, ◌*◌, ◌<◌, ◌≤◌, true, false, List, [], ◌∷◌, ◌++◌, Option, Some, None, slice_get, length, refl, sym, ap, ◌∙◌, subst, leb, arith}
use Rattle.std.proofs.Common.{append-nil, length-append}
use Rattle.std.proofs.Math.Nat.{le_of_mul-le-mul_left}
use Rattle.std.proofs.Math.Bridge.{le_prop}
use Rattle.std.proofs.lemmas.Bool.Decides.{eqb_tells, leb_tells}
use Rattle.rs_model.specs.Data.{Machine_data, Protocol_data}
use Rattle.rs_model.specs.declared.graph.Arm.{Arm}
use Rattle.rs_model.specs.declared.graph.Node.{Node}
use Rattle.rs_model.specs.declared.graph.Node.TheVariants.{Finished, Talk}
use Rattle.rs_model.specs.declared.graph.Role.{Role}
use Rattle.rs_model.specs.declared.machines.State.TheVariants.{Done}
use Rattle.rs_model.specs.Talks.{Talks}
use Rattle.rs_wellformed.specs.WellFormed.{IsWellFormed}
use Rattle.rs_core.specs.Configurations.{Configuration, StartsAt}
use Rattle.rs_core.specs.Safety.{IsSafe}
use Rattle.rs_core.proofs.Parts.{StraightTalk}
use Rattle.rs_core.proofs.Items.{Item, sends, recvs, Ordered}
use Rattle.rs_core.proofs.Stands.{Known, Trace, Stands, Good, Lasts, Peered}
use Rattle.rs_core.proofs.Going.{safe_of_good}
use Rattle.rs_project.specs.Data.{Projection_data}
use Rattle.rs_project.specs.Graph.{LeadsTo, IsReached}
use Rattle.rs_project.specs.Projection.{IsProjection}
use Rattle.rs_safety.proofs.Kept.{seen, Spaced, seen_bound}
use Rattle.rs_safety.proofs.Trail.{canon, lines_agree, pigeonhole}
use Rattle.rs_safety.proofs.Walks.{numbered, reach_on, idle_end}
use Rattle.rs_safety.proofs.Covers.{covers_start, covers_idle}
use Rattle.rs_safety.proofs.Grow.{Walk_fact, Follower, Seat, Paced, said, seat_give, seat_take, seat_other}

-- what one session is made of
pub record Parts (pr : Protocol_data) (ms : List Machine_data) (f : ℕ → ℕ → ℕ) (bound : ℕ) : Type 1 where
  pub fits : IsWellFormed pr
  pub roles : pr.roles ≡ length ms
  pub machine : ℕ → Machine_data
  pub stands : (p : ℕ) → p < pr.roles → slice_get ms p ≡ Some (machine p)
  pub projection : ℕ → Projection_data
  pub projected : (p : ℕ) → p < pr.roles → IsProjection pr (numbered p) (projection p)
  pub follower : (p : ℕ) → p < pr.roles → Follower (machine p) (projection p).machine (f p) bound

-- a path of n talks, with each role's seat
pub record Built (pr : Protocol_data) (ms : List Machine_data) (f : ℕ → ℕ → ℕ) (bound : ℕ) (parts : Parts pr ms f bound) (n : ℕ) : Type 0 where
  pub trail : List StraightTalk
  pub node : ℕ
  pub long : length trail ≡ n
  pub reached : IsReached pr node
  pub seat : (p : ℕ) (hp : p < pr.roles) → Seat pr (numbered p) (parts.projection p) (parts.follower p hp).F trail node

at_role : (R : ℕ) (P : (z : ℕ) → z < R → Type 0) (x : ℕ) (hx : x < R) → P x hx → (p : ℕ) (hp : p < R) → p ≡ x → P p hp
at_role R P x hx h p hp e =
    let Q : ℕ → Type 0 = λ z. (hz : z < R) → P z hz in
    let at_x : (hz : x < R) → P x hz = λ hz. (let S : x < R → Type 0 = λ w. P x w in subst S (le_prop hx hz) h) in
    (subst Q (sym e) at_x) hp

-- at the start
start_seat : (pr : Protocol_data) (p : Role) (pj : Projection_data) (m : Machine_data) (f : ℕ → ℕ) (bound : ℕ) (fl : Follower m pj.machine f bound)
    → IsProjection pr p pj → Seat pr p pj fl.F [] pr.root
start_seat pr p pj m f bound fl is = record {
  done = [];
  owed = [];
  t = pj.machine.start;
  follows = fl.start;
  sent = λ q. refl;
  got = λ q. refl;
  order = tt;
  below = tt;
  covers = covers_start pr p pj is;
  size = refl;
  spaced = tt;
  pace = inr record { since = []; fresh = tt; small = tt; rounds = λ h a. absurd a; uninvolved = λ h a. absurd a; far = omega arith };
}

-- one more talk
more_talk : (pr : Protocol_data) (ms : List Machine_data) (f : ℕ → ℕ → ℕ) (bound : ℕ) (parts : Parts pr ms f bound) (n : ℕ) (b : Built pr ms f bound parts n)
    (x y : Role) (theirs : List Arm) → Talks pr b.node x y theirs → Built pr ms f bound parts (suc n)
more_talk pr ms f bound parts n b x y theirs ng =
    let fit = parts.fits.talks b.node x y theirs ng in
    let gave = seat_give pr x (parts.projection x.0) (parts.machine x.0) (f x.0) bound (parts.follower x.0 fit.puts) b.trail b.node y theirs (parts.projected x.0 fit.puts) fit.others ng
    (b.seat x.0 fit.puts) in
    let goes : LeadsTo pr b.node gave.arm gave.to.next = record { sender = x; receiver = y; arms = theirs; arm = gave.to; talks = ng; stands = gave.stands; leads = refl } in
    let took = seat_take pr y (parts.projection y.0) (parts.machine y.0) (f y.0) bound (parts.follower y.0 fit.takes) b.trail b.node x theirs gave.arm gave.to (parts.projected y.0 fit.takes)
    fit.others ng gave.stands (b.seat y.0 fit.takes) in
    let P : (z : ℕ) → z < pr.roles → Type 0 = λ z hz. Seat pr (numbered z) (parts.projection z) (parts.follower z hz).F (said x y gave.to ∷ b.trail) gave.to.next in
    record {
      trail = said x y gave.to ∷ b.trail;
      node = gave.to.next;
      long = ap suc b.long;
      reached = reach_on pr pr.root b.node gave.arm gave.to.next b.reached goes;
      seat = λ p hp. elim (eqb_tells p x.0) [
        | inl t ↦ at_role pr.roles P x.0 fit.puts gave.seat p hp t.1
        | inr t ↦ elim (eqb_tells p y.0) [
          | inl u ↦ at_role pr.roles P y.0 fit.takes took p hp u.1
          | inr u ↦ seat_other pr (numbered p) (parts.projection p) (parts.follower p hp).F b.trail b.node x y theirs gave.arm gave.to (parts.projected p hp)
              (λ e. t.1 (ap (λ (z : Role). z.0) (sym e))) (λ e. u.1 (ap (λ (z : Role). z.0) (sym e))) ng gave.stands b.reached (b.seat p hp)
        ]
      ];
    }

-- a path of n talks, or a path at whose end every role is done
pub data Growth (pr : Protocol_data) (ms : List Machine_data) (f : ℕ → ℕ → ℕ) (bound : ℕ) (parts : Parts pr ms f bound) (n : ℕ) : Type 0 where
  Full : Built pr ms f bound parts n → Growth pr ms f bound parts n
  Halt : (m : ℕ) (b : Built pr ms f bound parts m)
      → ((p : ℕ) (hp : p < pr.roles) → slice_get (parts.projection p).machine.states (b.seat p hp).t ≡ Some Done) → Growth pr ms f bound parts n

all_done : (pr : Protocol_data) (ms : List Machine_data) (f : ℕ → ℕ → ℕ) (bound : ℕ) (parts : Parts pr ms f bound) (n : ℕ) (b : Built pr ms f bound parts n)
    → ((x y : Role) (arms : List Arm) → Talks pr b.node x y arms → ⊥)
    → (p : ℕ) (hp : p < pr.roles) → slice_get (parts.projection p).machine.states (b.seat p hp).t ≡ Some Done
all_done pr ms f bound parts n b none p hp =
    covers_idle pr (numbered p) (parts.projection p) (b.seat p hp).t b.node (parts.projected p hp) (b.seat p hp).covers (idle_end pr (numbered p) b.node none)

grow_on : (pr : Protocol_data) (ms : List Machine_data) (f : ℕ → ℕ → ℕ) (bound : ℕ) (parts : Parts pr ms f bound) (n : ℕ) (b : Built pr ms f bound parts n)
    (o : Option Node) → slice_get pr.nodes b.node ≡ o → Growth pr ms f bound parts (suc n)
grow_on pr ms f bound parts n b (Some (Talk x y theirs)) e = Full (more_talk pr ms f bound parts n b x y theirs e)
grow_on pr ms f bound parts n b None e = Halt n b (all_done pr ms f bound parts n b (λ x y theirs h. cc (e, h)))
grow_on pr ms f bound parts n b (Some Finished) e = Halt n b (all_done pr ms f bound parts n b (λ x y theirs h. cc (e, h)))

grow_next : (pr : Protocol_data) (ms : List Machine_data) (f : ℕ → ℕ → ℕ) (bound : ℕ) (parts : Parts pr ms f bound) (n : ℕ) → Growth pr ms f bound parts n
    → Growth pr ms f bound parts (suc n)
grow_next pr ms f bound parts n (Full b) = grow_on pr ms f bound parts n b (slice_get pr.nodes b.node) refl
grow_next pr ms f bound parts n (Halt m b done) = Halt m b done

grow : (pr : Protocol_data) (ms : List Machine_data) (f : ℕ → ℕ → ℕ) (bound : ℕ) (parts : Parts pr ms f bound) (n : ℕ) → Growth pr ms f bound parts n
grow pr ms f bound parts zero = Full record {
  trail = [];
  node = pr.root;
  long = refl;
  reached = ([], refl);
  seat = λ p hp. start_seat pr (numbered p) (parts.projection p) (parts.machine p) (f p) bound (parts.follower p hp) (parts.projected p hp);
}
grow pr ms f bound parts (suc n) = grow_next pr ms f bound parts n (grow pr ms f bound parts n)

-- one role's part of what is said of the start
pub record Part (F : Walk_fact) (m : Machine_data) (f : ℕ → ℕ) (nodes n p : ℕ) (trail : List StraightTalk) : Type 0 where
  pub future : List Item
  pub owed : List Item
  pub above : ℕ
  pub follows : F (canon p trail) future owed above
  pub spaced : Spaced nodes 0 (canon p trail)
  pub last : ℕ
  pub trace : Trace m f m.start future last
  pub lasts : Lasts m n future owed last
  pub sent : (q : ℕ) → sends q (future ++ owed) ≡ sends q (canon p trail)
  pub got : (q : ℕ) → recvs q (future ++ owed) ≡ recvs q (canon p trail)
  pub order : Ordered (future ++ owed)

part_done : (pr : Protocol_data) (p : Role) (pj : Projection_data) (m : Machine_data) (f : ℕ → ℕ) (bound n : ℕ) (fl : Follower m pj.machine f bound) (trail : List StraightTalk) (g : ℕ)
    (seat : Seat pr p pj fl.F trail g)
    → slice_get pj.machine.states seat.t ≡ Some Done → Part fl.F m f (length pr.nodes) n p.0 trail
part_done pr p pj m f bound n fl trail g seat d =
    let e = fl.ends (canon p.0 trail) seat.done seat.owed seat.t seat.follows d in
    record {
      future = e.done';
      owed = [];
      above = seat.t;
      follows = e.follows;
      spaced = seat.spaced;
      last = e.last;
      trace = e.trace;
      lasts = inl (refl, e.stands);
      sent = λ q. ap (λ (z : List Item). sends q z) (append-nil e.done') ∙ e.kept.sent q ∙ seat.sent q;
      got = λ q. ap (λ (z : List Item). recvs q z) (append-nil e.done') ∙ e.kept.got q ∙ seat.got q;
      order = rw (append-nil e.done') (e.kept.order seat.order);
    }

enough : (N n bound size k trail last since : ℕ) → 0 < N → N * (n + bound + 1) ≤ trail → trail ≡ last + since → last ≤ 0 + N * size → since ≤ N → k ≤ bound → n + k ≤ size
enough N n bound size k trail last since hN ht hf hl hs hk =
    let e : N * (n + bound) ≤ N * size = omega arith in
    let h : n + bound ≤ size = le_of_mul-le-mul_left e hN in
    omega arith

part_live : (pr : Protocol_data) (p : Role) (pj : Projection_data) (m : Machine_data) (f : ℕ → ℕ) (bound n : ℕ) (fl : Follower m pj.machine f bound) (trail : List StraightTalk) (g : ℕ)
    (seat : Seat pr p pj fl.F trail g)
    → 0 < length pr.nodes → length pr.nodes * (n + bound + 1) ≤ length trail → Paced pr p g (length trail) (seen 0 (canon p.0 trail)) → Part fl.F m f (length pr.nodes) n p.0 trail
part_live pr p pj m f bound n fl trail g seat hN ht pc =
    let tr = fl.trace (canon p.0 trail) seat.done seat.owed seat.t seat.follows in
    let since : length pc.since ≤ length pr.nodes = pigeonhole (length pr.nodes) pc.since pc.fresh pc.small in
    let sum : length (seat.done ++ seat.owed) ≡ length seat.done + length seat.owed = length-append seat.done seat.owed in
    let size = seat.size in
    let short : length seat.owed ≤ bound = fl.short (canon p.0 trail) seat.done seat.owed seat.t seat.follows in
    let last : seen 0 (canon p.0 trail) ≤ 0 + length pr.nodes * length (canon p.0 trail) = seen_bound (length pr.nodes) 0 (canon p.0 trail) seat.spaced in
    let many : n + length seat.owed ≤ length (canon p.0 trail) =
    enough (length pr.nodes) n bound (length (canon p.0 trail)) (length seat.owed) (length trail) (seen 0 (canon p.0 trail)) (length pc.since) hN ht pc.far last since short in
    let long : n ≤ length seat.done = omega arith in
    record {
      future = seat.done;
      owed = seat.owed;
      above = seat.t;
      follows = seat.follows;
      spaced = seat.spaced;
      last = tr.0;
      trace = tr.1;
      lasts = inr long;
      sent = seat.sent;
      got = seat.got;
      order = seat.order;
    }

part_of : (pr : Protocol_data) (p : Role) (pj : Projection_data) (m : Machine_data) (f : ℕ → ℕ) (bound n : ℕ) (fl : Follower m pj.machine f bound) (trail : List StraightTalk) (g : ℕ)
    (seat : Seat pr p pj fl.F trail g)
    → 0 < length pr.nodes → length pr.nodes * (n + bound + 1) ≤ length trail → Part fl.F m f (length pr.nodes) n p.0 trail
part_of pr p pj m f bound n fl trail g seat hN ht = elim seat.pace [
  | inl d ↦ part_done pr p pj m f bound n fl trail g seat d
  | inr pc ↦ part_live pr p pj m f bound n fl trail g seat hN ht pc
]

pub record AllParts (pr : Protocol_data) (ms : List Machine_data) (f : ℕ → ℕ → ℕ) (bound : ℕ) (parts : Parts pr ms f bound) (n : ℕ) : Type 0 where
  pub trail : List StraightTalk
  pub part : (p : ℕ) (hp : p < pr.roles) → Part (parts.follower p hp).F (parts.machine p) (f p) (length pr.nodes) n p trail

all_parts : (pr : Protocol_data) (ms : List Machine_data) (f : ℕ → ℕ → ℕ) (bound : ℕ) (parts : Parts pr ms f bound) (n : ℕ) → Growth pr ms f bound parts (length pr.nodes * (n + bound + 1))
    → AllParts pr ms f bound parts n
all_parts pr ms f bound parts n (Full b) = record {
  trail = b.trail;
  part = λ p hp. part_of pr (numbered p) (parts.projection p) (parts.machine p) (f p) bound n (parts.follower p hp) b.trail b.node (b.seat p hp) (let h = parts.fits.root in omega arith)
      (omega (arith, b.long));
}
all_parts pr ms f bound parts n (Halt m b done) = record {
  trail = b.trail;
  part = λ p hp. part_done pr (numbered p) (parts.projection p) (parts.machine p) (f p) bound n (parts.follower p hp) b.trail b.node (b.seat p hp) (done p hp);
}

-- a function on the roles, as one on all numbers
choose_in : (R p : ℕ) → ((z : ℕ) → z < R → List Item) → ((leb (suc p) R ≡ true) × (suc p ≤ R)) ⊎ ((leb (suc p) R ≡ false) × (R < suc p)) → List Item
choose_in R p f (inl h) = f p h.1
choose_in R p f (inr h) = []

choose_in_is : (R p : ℕ) (f : (z : ℕ) → z < R → List Item) (hp : p < R) (d : ((leb (suc p) R ≡ true) × (suc p ≤ R)) ⊎ ((leb (suc p) R ≡ false) × (R < suc p))) → choose_in R p f d ≡ f p hp
unfolding choose_in
choose_in_is R p f hp (inl h) = ap (f p) (le_prop h.1 hp)
choose_in_is R p f hp (inr h) = absurd (omega (arith, h.1))

choose : (R : ℕ) → ((z : ℕ) → z < R → List Item) → ℕ → List Item
choose R f p = choose_in R p f (leb_tells (suc p) R)

choose_is : (R : ℕ) (f : (z : ℕ) → z < R → List Item) (p : ℕ) (hp : p < R) → choose R f p ≡ f p hp
unfolding choose
choose_is R f p hp = choose_in_is R p f hp (leb_tells (suc p) R)

stands_start : (pr : Protocol_data) (ms : List Machine_data) (f : ℕ → ℕ → ℕ) (bound : ℕ) (parts : Parts pr ms f bound) (W : Known) (n : ℕ) (c : Configuration) → StartsAt ms c
    → ((p : ℕ) (hp : p < pr.roles) (trail : List StraightTalk) (future owed : List Item) (t : ℕ) → (parts.follower p hp).F (canon p trail) future owed t → Spaced (length pr.nodes) 0 (canon p trail)
    → W p future owed)
    → AllParts pr ms f bound parts n → Stands ms W (λ r. 0) f n c
stands_start pr ms f bound parts W n c start tells all =
    let fut : (z : ℕ) → z < pr.roles → List Item = λ z hz. (all.part z hz).future in
    let ow : (z : ℕ) → z < pr.roles → List Item = λ z hz. (all.part z hz).owed in
    record {
      past = λ a. [];
      future = choose pr.roles fut;
      owed = choose pr.roles ow;
      known = λ a ha.
          let hp : a < pr.roles = omega (arith, parts.roles) in
          let pt = all.part a hp in
          rw (choose_is pr.roles fut a hp, choose_is pr.roles ow a hp) (tells a hp all.trail pt.future pt.owed pt.above pt.follows pt.spaced);
      acts = λ a ha. refl;
      lines = λ a b ha hb ne.
          let hp : a < pr.roles = omega (arith, parts.roles) in
          let hq : b < pr.roles = omega (arith, parts.roles) in
          rw (choose_is pr.roles fut a hp, choose_is pr.roles ow a hp, choose_is pr.roles fut b hq, choose_is pr.roles ow b hq)
          ((all.part a hp).sent b ∙ lines_agree a b ne all.trail ∙ sym ((all.part b hq).got a));
      plays = λ a ha.
          let hp : a < pr.roles = omega (arith, parts.roles) in
          let pt = all.part a hp in
          let P : ℕ → Type 0 = λ z. Trace (parts.machine a) (f a) z pt.future pt.last in
          rw (choose_is pr.roles fut a hp, choose_is pr.roles ow a hp) record {
            machine = parts.machine a;
            stands = parts.stands a hp;
            last = pt.last;
            trace = subst P (sym (start.states a (parts.machine a) (parts.stands a hp))) pt.trace;
            lasts = pt.lasts;
          };
      order = λ a ha.
          let hp : a < pr.roles = omega (arith, parts.roles) in
          rw (choose_is pr.roles fut a hp, choose_is pr.roles ow a hp) (all.part a hp).order;
      balance = λ a b ha hb ne.
          let hp : a < pr.roles = omega (arith, parts.roles) in
          let hq : b < pr.roles = omega (arith, parts.roles) in
          rw (start.queues a b, choose_is pr.roles fut a hp, choose_is pr.roles ow a hp, choose_is pr.roles fut b hq, choose_is pr.roles ow b hq)
          ((all.part a hp).sent b ∙ lines_agree a b ne all.trail ∙ sym ((all.part b hq).got a));
    }

-- sessions whose roles have followers are good at the start, with what the followers tell
pub good_of_parts : (pr : Protocol_data) (ms : List Machine_data) (bound : ℕ) (W : Known) (parts : (f : ℕ → ℕ → ℕ) → Parts pr ms f bound)
    → ((f : ℕ → ℕ → ℕ) (p : ℕ) (hp : p < pr.roles) (trail : List StraightTalk) (future owed : List Item) (t : ℕ) → ((parts f).follower p hp).F (canon p trail) future owed t
    → Spaced (length pr.nodes) 0 (canon p trail) → W p future owed)
    → (c : Configuration) → StartsAt ms c → Good ms W (λ r. 0) c
good_of_parts pr ms bound W parts tells c start f n =
    stands_start pr ms f bound (parts f) W n c start (tells f) (all_parts pr ms f bound (parts f) n (grow pr ms f bound (parts f) (length pr.nodes * (n + bound + 1))))

-- sessions whose roles have followers are safe
pub safe_of_parts : (pr : Protocol_data) (ms : List Machine_data) (bound : ℕ) → Peered ms → ((f : ℕ → ℕ → ℕ) → Parts pr ms f bound) → IsSafe ms
safe_of_parts pr ms bound peered parts =
    safe_of_good ms (λ p x y. Unit {0}) peered (good_of_parts pr ms bound (λ p x y. Unit {0}) parts (λ f p hp trail future owed t w sp. tt))
