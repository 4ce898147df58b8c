-- The unit that was read is no later version's, since that was looked at first, and version 1 has no layer.
use Rattle.std.proofs.Common.{rules}
use Rattle.serde_json.specs.View.{view}
use Rattle.sg_rows.proofs.FormLemmas.{layer_now, unit_now}
use Rattle.sg_rows.proofs.event.read_event_parts.Goals as goal

pub returns-clause-sound : goal.returns-clause-sound
returns-clause-sound c =
    let now = c.in_ok-not_later.ensures.now in
    record {
      id = c.in_ok-id.ensures.sound;
      layer = layer_now c.args.form (view c.args.value.now) c.in_ok-layer.layer c.in_ok-layer.ensures;
      target = c.in_ok-target.ensures.sound;
      when = c.in_ok-when.ensures.sound;
      repeat = c.in_ok-repeat.ensures.sound;
      unit = unit_now c.args.form (view c.args.value.now) (view c.in_ok-member.field-0.now) _ now c.in_ok-member.ensures c.in_ok-repeat.ensures.gives;
      order = search rules;
      priority = search rules;
      share = search rules;
    }
