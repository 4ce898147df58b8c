use Rattle.std.proofs.Common.{◌≡◌, ◌∙◌, ap}
use Rattle.json.specs.Print.{escape_byte}
use Rattle.sg_manifest.specs.Snapshot.{form_of}
use Rattle.sg_manifest.proofs.text.put_snapshot.Goals as goal

pub returns-clause-text : goal.returns-clause-text
unfolding escape_byte
returns-clause-text g c =
    let form : c.form_of-form.result ≡ form_of c.args.snapshot.now.version = c.form_of-form.ensures ∙ ap form_of c.version-version.ensures.value in
    let campaigns = simp c.campaigns.ensures.value at c.in_ok-put_rows.ensures in
    let dayparts = simp (form, c.dayparts.ensures.value) at c.in_ok-put_rows-2.ensures in
    let default = simp c.default.ensures.value at c.in_ok-put_number.ensures in
    let events = simp (form, c.events.ensures.value) at c.in_ok-put_rows-3.ensures in
    let files = simp c.files.ensures.value at c.in_ok-put_rows-4.ensures in
    let layouts = simp c.layouts.ensures.value at c.in_ok-put_rows-5.ensures in
    let version = simp c.version-version.ensures.value at c.in_ok-put_number-2.ensures in
    let zone = simp c.zone.ensures.value at c.in_ok-put_zone.ensures in
    λ rest. c.in_ok-put-2.ensures rest
    ∙ (zone _ ∙ (c.in_ok-put.ensures _ ∙ (version _ ∙ (layouts _ ∙ (files _ ∙ (events _ ∙ (default _ ∙ (dayparts _ ∙ campaigns _))))))))
