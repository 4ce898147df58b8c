use Rattle.std.proofs.Common.{ℕ, List, length, refl, sym, ◌∙◌, ap, subst, inl}
use Rattle.sg_disk.specs.View.{Only}
use Rattle.sg_disk.specs.Contents.{played}
use Rattle.sg_disk.specs.StandsFor.{fields}
use Rattle.sg_contents.specs.StandsFor.{StandsFor, Either}
use Rattle.sg_disk.proofs.Moments.{weaker}
use Rattle.sg_journal.proofs.JournalSteps.{fields_within, filling_moments, recording_moments, recording_ready, recording_within}
use Rattle.sg_journal.proofs.journal.Journal.write_record.Goals as goal

pub returns-in_err-write_synced-clause-within : goal.returns-in_err-write_synced-clause-within
returns-in_err-write_synced-clause-within g c = fields_within _ c.place-gate.result (length c.record_fields.result) _ _ c.record_fields.ensures.long c.place-gate.ensures c.write_synced.ensures.within

pub returns-in_err-write_synced-clause-any_moment : goal.returns-in_err-write_synced-clause-any_moment
returns-in_err-write_synced-clause-any_moment g c p ready =
    weaker (g.D.Disk.view c.args.disk.now) (g.D.Disk.view c.write_synced.new.disk) (StandsFor p) (Either p (played p c.args.play.now)) (λ d stands. inl stands)
    (filling_moments (g.D.Disk.view c.args.disk.now) (g.D.Disk.view c.write_synced.new.disk) c.args.self.now c.args.play.now c.place-gate.result (length c.record_fields.result) (record { free = c.requires.free; unspent = c.requires.unspent; is = record { event = c.record_fields.ensures.ranges.0; layout = (c.requires.layout, c.record_fields.ensures.ranges.1); rises = c.requires.rises; in_range = c.record_fields.ensures.ranges.2 } }) c.record_fields.ensures.long c.place-gate.ensures c.write_synced.ensures.within p ready)

pub returns-in_err-write_synced-2-clause-any_moment : goal.returns-in_err-write_synced-2-clause-any_moment
returns-in_err-write_synced-2-clause-any_moment g c p ready =
    recording_moments (g.D.Disk.view c.args.disk.now) (g.D.Disk.view c.write_synced.new.disk) (g.D.Disk.view c.write_synced-2.new.disk) c.args.self.now c.args.play.now c.place-gate.result c.record_fields.result (record {
      free = record {
        free = c.requires.free;
        unspent = c.requires.unspent;
        is = record {
          event = c.record_fields.ensures.ranges.0;
          layout = (c.requires.layout, c.record_fields.ensures.ranges.1);
          rises = c.requires.rises;
          in_range = c.record_fields.ensures.ranges.2;
        };
      };
      long = c.record_fields.ensures.long;
      is = c.record_fields.ensures.fields ∙ ap (λ (n : ℕ). fields c.args.self.now.epoch n c.args.play.now) c.next.ensures;
      at = c.place-gate.ensures;
      fits = c.requires.disk;
      size = c.write_synced.ensures.size;
      within = c.write_synced.ensures.within;
      written = c.in_ok-write_synced.ensures.written;
      durable = c.in_ok-write_synced.ensures.durable;
      tells = c.in_ok-write_synced.ensures.ran.told;
    }) c.write_synced-2.ensures.within p ready

pub returns-in_err-write_synced-2-clause-within : goal.returns-in_err-write_synced-2-clause-within
returns-in_err-write_synced-2-clause-within g c =
    recording_within (g.D.Disk.view c.args.disk.now) (g.D.Disk.view c.write_synced.new.disk) (g.D.Disk.view c.write_synced-2.new.disk) c.args.self.now c.args.play.now c.place-gate.result c.record_fields.result (record {
      free = record {
        free = c.requires.free;
        unspent = c.requires.unspent;
        is = record {
          event = c.record_fields.ensures.ranges.0;
          layout = (c.requires.layout, c.record_fields.ensures.ranges.1);
          rises = c.requires.rises;
          in_range = c.record_fields.ensures.ranges.2;
        };
      };
      long = c.record_fields.ensures.long;
      is = c.record_fields.ensures.fields ∙ ap (λ (n : ℕ). fields c.args.self.now.epoch n c.args.play.now) c.next.ensures;
      at = c.place-gate.ensures;
      fits = c.requires.disk;
      size = c.write_synced.ensures.size;
      within = c.write_synced.ensures.within;
      written = c.in_ok-write_synced.ensures.written;
      durable = c.in_ok-write_synced.ensures.durable;
      tells = c.in_ok-write_synced.ensures.ran.told;
    }) c.write_synced-2.ensures.within

pub returns-clause-any_moment : goal.returns-clause-any_moment
returns-clause-any_moment g c p ready =
    recording_moments (g.D.Disk.view c.args.disk.now) (g.D.Disk.view c.write_synced.new.disk) (g.D.Disk.view c.write_synced-2.new.disk) c.args.self.now c.args.play.now c.place-gate.result c.record_fields.result (record {
      free = record {
        free = c.requires.free;
        unspent = c.requires.unspent;
        is = record {
          event = c.record_fields.ensures.ranges.0;
          layout = (c.requires.layout, c.record_fields.ensures.ranges.1);
          rises = c.requires.rises;
          in_range = c.record_fields.ensures.ranges.2;
        };
      };
      long = c.record_fields.ensures.long;
      is = c.record_fields.ensures.fields ∙ ap (λ (n : ℕ). fields c.args.self.now.epoch n c.args.play.now) c.next.ensures;
      at = c.place-gate.ensures;
      fits = c.requires.disk;
      size = c.write_synced.ensures.size;
      within = c.write_synced.ensures.within;
      written = c.in_ok-write_synced.ensures.written;
      durable = c.in_ok-write_synced.ensures.durable;
      tells = c.in_ok-write_synced.ensures.ran.told;
    }) c.write_synced-2.ensures.within p ready

pub returns-clause-ready : goal.returns-clause-ready
returns-clause-ready g c p ready =
    recording_ready (g.D.Disk.view c.args.disk.now) (g.D.Disk.view c.write_synced.new.disk) (g.D.Disk.view c.write_synced-2.new.disk) c.args.self.now _ c.args.play.now c.place-gate.result c.record_fields.result (record {
      free = record {
        free = c.requires.free;
        unspent = c.requires.unspent;
        is = record {
          event = c.record_fields.ensures.ranges.0;
          layout = (c.requires.layout, c.record_fields.ensures.ranges.1);
          rises = c.requires.rises;
          in_range = c.record_fields.ensures.ranges.2;
        };
      };
      long = c.record_fields.ensures.long;
      is = c.record_fields.ensures.fields ∙ ap (λ (n : ℕ). fields c.args.self.now.epoch n c.args.play.now) c.next.ensures;
      at = c.place-gate.ensures;
      fits = c.requires.disk;
      size = c.write_synced.ensures.size;
      within = c.write_synced.ensures.within;
      written = c.in_ok-write_synced.ensures.written;
      durable = c.in_ok-write_synced.ensures.durable;
      tells = c.in_ok-write_synced.ensures.ran.told;
    }) refl refl refl c.push_back_reserved.ensures.items c.write_synced-2.ensures.within c.in_ok-write_synced-2.ensures.written c.in_ok-write_synced-2.ensures.durable c.in_ok-write_synced-2.ensures.ran.told p ready

pub returns-clause-within : goal.returns-clause-within
returns-clause-within g c =
    recording_within (g.D.Disk.view c.args.disk.now) (g.D.Disk.view c.write_synced.new.disk) (g.D.Disk.view c.write_synced-2.new.disk) c.args.self.now c.args.play.now c.place-gate.result c.record_fields.result (record {
      free = record {
        free = c.requires.free;
        unspent = c.requires.unspent;
        is = record {
          event = c.record_fields.ensures.ranges.0;
          layout = (c.requires.layout, c.record_fields.ensures.ranges.1);
          rises = c.requires.rises;
          in_range = c.record_fields.ensures.ranges.2;
        };
      };
      long = c.record_fields.ensures.long;
      is = c.record_fields.ensures.fields ∙ ap (λ (n : ℕ). fields c.args.self.now.epoch n c.args.play.now) c.next.ensures;
      at = c.place-gate.ensures;
      fits = c.requires.disk;
      size = c.write_synced.ensures.size;
      within = c.write_synced.ensures.within;
      written = c.in_ok-write_synced.ensures.written;
      durable = c.in_ok-write_synced.ensures.durable;
      tells = c.in_ok-write_synced.ensures.ran.told;
    }) c.write_synced-2.ensures.within

pub returns-clause-stable : goal.returns-clause-stable
returns-clause-stable g c told =
    let w = g.D.Disk.view c.write_synced-2.new.disk in
    let here = c.in_ok-write_synced.ensures.ran.told told in
    subst (λ (b : List ℕ). Only b w) (sym (c.in_ok-write_synced-2.ensures.written here)) (c.in_ok-write_synced-2.ensures.durable here)
