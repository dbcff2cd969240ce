-- Room that was seen stays.
use Rattle.std.proofs.Common.{◌≡◌, ℕ, true, Some, sym, ◌∙◌, subst}
use Rattle.rs_model.specs.declared.values.Sort.{Sort}
use Rattle.rs_model.specs.declared.values.Value.{Value}
use Rattle.rs_rings.specs.Passes.{Rings_data}
use Rattle.rs_session.specs.Acts.{IsHandedBack}
use Rattle.rs_session.specs.Data.{Stage_data}
use Rattle.rs_session.specs.declared.stages.Stage.{Stage}
use Rattle.rs_session.specs.declared.stages.Stage.TheVariants.{Sending}
use Rattle.rs_session.proofs.Telling.{room_stays}
use Rattle.rs_endpoints.specs.Endpoints.{Endpoint_data, HasLooked, PostTells}
use Rattle.rs_endpoints.specs.declared.acts.Posted.TheVariants as posted

pub stays : (old seen new : Endpoint_data) (place at : ℕ) (sort : Sort) (value back : Value) → HasLooked old place sort seen true → PostTells seen at value new (posted.Full back) → ⊥
stays old seen new place at sort value back l (stage, same, sent, taken, stands, handed, goes) =
    let both : Some (Sending l.seen) ≡ Some (Sending stage) = sym l.goes.stands ∙ stands in
    let is : stage ≡ l.seen = cc (both) in
    let handed' : IsHandedBack old.session l.seen at value same back sent taken
    = subst (λ (z : Rings_data × Stage_data). IsHandedBack z.0 z.1 at value same back sent taken) (λ i. (l.goes.session i, is i)) handed in
    room_stays old.session l.stage l.seen same at sent taken value back l.told handed'
