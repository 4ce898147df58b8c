-- A snapshot with rows of each kind, and its text as another program wrote it (Python's json, compact and
-- with sorted keys).
use Rattle.std.specs.Prelude.{◌≡◌, ℕ, [], ◌∷◌, codes, Some, None, refl}
use Rattle.std.specs.Fmt.{digits}
use Rattle.json.specs.Print.{escape_byte}
use Rattle.hex.specs.Hex.{encode_with}
use Rattle.sg_base.specs.declared.layout.Item.{Item}
use Rattle.sg_base.specs.declared.event.When.TheVariants.{Always, Custom, Named}
use Rattle.sg_base.specs.declared.event.Target.TheVariants.{Layout, Campaign}
use Rattle.sg_base.specs.declared.repeat.Unit.TheVariants.{Hour, Week}
use Rattle.sg_base.specs.declared.zone.ZoneRule.TheVariants.{Posix}
use Rattle.sg_base.specs.Event.{EventValue}
use Rattle.sg_manifest.specs.Snapshot.{SnapshotRow}
use Rattle.sg_manifest.specs.Text.{text}

unfoldable pub shown : ℕ → Item
shown seconds = record { media = record { 0 = 7 }; seconds = seconds }

unfoldable pub always : EventValue
always = record { id = record { 0 = 1 }; layer = 0; target = Layout (record { 0 = 2 }); when = Always; repeat = None; order = 0; priority = 65535; share = 0 }

unfoldable pub weekly : EventValue
weekly = record {
  id = record { 0 = 2 };
  layer = 0;
  target = Campaign (record { 0 = 4 });
  when = Named (record { 0 = 9 }) 19723;
  repeat = Some (record { unit = Week; every = 2; days = 81; until = Some 19800 });
  order = 3;
  priority = 0;
  share = 0;
}

unfoldable pub hourly : EventValue
hourly = record {
  id = record { 0 = 3 };
  layer = 0;
  target = Layout (record { 0 = 1 });
  when = Custom 1704067200 1704070800;
  repeat = Some (record { unit = Hour; every = 1; days = 0; until = None });
  order = 1;
  priority = 0;
  share = 600;
}

unfoldable pub sample : SnapshotRow
sample = record {
  version = 1;
  zone = Posix (codes "CET-1CEST,M3.5.0,M10.5.0/3");
  default = record { 0 = 1 };
  layouts = (record {
    id = record { 0 = 1 };
    regions =
        (record { id = 2; items = shown 10 ∷ shown 20 ∷ [] }) ∷ (record { id = 1; items = shown 5 ∷ [] }) ∷ [];
  })
      ∷ (record { id = record { 0 = 2 }; regions = (record { id = 1; items = shown 3600 ∷ [] }) ∷ [] }) ∷ [];
  campaigns = (record { id = record { 0 = 4 }; layouts = (record { 0 = 1 }) ∷ (record { 0 = 2 }) ∷ (record { 0 = 1 }) ∷ [] }) ∷ [];
  dayparts = (record { id = record { 0 = 9 }; window = record { start = 28800; end = 0 }; exceptions = (6, record { start = 36000; end = 75600 }) ∷ []; dates = [] }) ∷ [];
  events = always ∷ weekly ∷ hourly ∷ [];
  files = (record { media = record { 0 = 7 }; length = 3; md5 = 144 ∷ 1 ∷ 80 ∷ 152 ∷ 60 ∷ 210 ∷ 79 ∷ 176 ∷ 214 ∷ 150 ∷ 63 ∷ 125 ∷ 40 ∷ 225 ∷ 127 ∷ 114 ∷ [] }) ∷ [];
}

pub text-sample : text sample ≡ codes "{\"campaigns\":[{\"id\":4,\"layouts\":[1,2,1]}],\"dayparts\":[{\"end\":0,\"exceptions\":[{\"day\":6,\"end\":75600,\"start\":36000}],\"id\":9,\"start\":28800}],\"default\":1,\"events\":[{\"id\":1,\"order\":0,\"priority\":65535,\"repeat\":null,\"share\":0,\"target\":{\"layout\":2},\"when\":{\"always\":true}},{\"id\":2,\"order\":3,\"priority\":0,\"repeat\":{\"days\":[1,5,7],\"every\":2,\"unit\":\"week\",\"until\":19800},\"share\":0,\"target\":{\"campaign\":4},\"when\":{\"date\":19723,\"daypart\":9}},{\"id\":3,\"order\":1,\"priority\":0,\"repeat\":{\"days\":[],\"every\":1,\"unit\":\"hour\",\"until\":null},\"share\":600,\"target\":{\"layout\":1},\"when\":{\"from\":1704067200,\"to\":1704070800}}],\"files\":[{\"id\":7,\"length\":3,\"md5\":\"900150983cd24fb0d6963f7d28e17f72\"}],\"layouts\":[{\"id\":1,\"regions\":[{\"id\":2,\"items\":[{\"media\":7,\"seconds\":10},{\"media\":7,\"seconds\":20}]},{\"id\":1,\"items\":[{\"media\":7,\"seconds\":5}]}]},{\"id\":2,\"regions\":[{\"id\":1,\"items\":[{\"media\":7,\"seconds\":3600}]}]}],\"version\":1,\"zone\":{\"posix\":\"CET-1CEST,M3.5.0,M10.5.0/3\"}}"
unfolding text sample shown always weekly hourly encode_with digits escape_byte
text-sample = refl
