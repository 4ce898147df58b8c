use Rattle.std.proofs.Common.{◌≡◌, codes}
use Rattle.std.specs.List.{list_any}
use Rattle.sg_http.specs.Fields.{asks_to_close}
use Rattle.sg_http.specs.Places.{values_from}
use Rattle.sg_http.proofs.fields.is_close_asked.Given as goal

abbrev pub invariant-loop-i : goal.invariant-loop-i
invariant-loop-i l =
    list_any asks_to_close (values_from l.buf (codes "Connection") l.fields l.i)
    ≡ list_any asks_to_close (values_from l.buf (codes "Connection") l.fields 0)
