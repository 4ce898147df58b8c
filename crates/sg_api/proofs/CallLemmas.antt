-- What messages ask for: no fault, and of methods only those that paths take.
use Rattle.std.proofs.Common.{◌≡◌, ℕ, Bool, true, false, List, Option, None, Some, arith, subst}
use Rattle.std.specs.Prelude.{◌≢◌, Result, Ok, Err, nat_lt, ◌==◌, if◌then◌else◌, ⊤}
use Rattle.std.specs.List.{list_any}
use Rattle.std.specs.Option.{ok_or}
use Rattle.serde_json.specs.Data.{Data}
use Rattle.sg_answers.specs.Calls.{Call, Refuse, Report, call_by, call_for, edit_in, edit_of, plays_in, plays_of}
use Rattle.sg_answers.specs.Keys.{may_ask}
use Rattle.sg_base.specs.declared.ids.DisplayId.{DisplayId}
use Rattle.sg_bodies.specs.Bodies.{EditParts, PlaysParts, edit_body_in, json_at, plays_body_in}
use Rattle.sg_http.specs.declared.message.Verb.{Verb}
use Rattle.sg_http.specs.declared.message.Verb.TheVariants.{Other}
use Rattle.sg_replies.specs.Bodies.{refusal_status}
use Rattle.sg_replies.specs.declared.refusal.Refusal.TheVariants as refusal
use Rattle.sg_routes.specs.declared.asked.Asked.{Asked}
use Rattle.sg_routes.specs.declared.asked.Asked.TheVariants as asked
use Rattle.sg_routes.specs.declared.asked.RouteFault.{RouteFault}
use Rattle.sg_routes.specs.declared.asked.RouteFault.TheVariants as route_fault
use Rattle.sg_routes.specs.declared.route.Route.{Route}
use Rattle.sg_routes.specs.declared.route.Route.TheVariants as route
use Rattle.sg_routes.specs.Asked.{ask, ask_route, asked_at, is_verb}
use Rattle.sg_routes.specs.Paths.{route_of, segments, verb_for}
use Rattle.sg_rows.specs.declared.fault.RowFault.{RowFault}
use Rattle.sg_tables.specs.Entries.{Kept}

-- ---- no message asks for a refusal that tells a fault

abbrev pub IsSound : Call → Type 0
IsSound (Refuse reason) = refusal_status reason ≢ 503
IsSound call = ⊤

body_sound : refusal_status refusal.Body ≢ 503
body_sound = λ e. absurd (omega (arith, e))

edit_sound : (r : Result EditParts RowFault) → IsSound (edit_of r)
edit_sound (Ok p) = tt
edit_sound (Err fault) = body_sound

edit_in_sound : (d : Option Data) → IsSound (edit_in d)
edit_in_sound None = body_sound
edit_in_sound (Some d) = edit_sound (edit_body_in d)

plays_sound : (display : DisplayId) (r : Result PlaysParts RowFault) → IsSound (plays_of display r)
plays_sound display (Ok p) = tt
plays_sound display (Err fault) = body_sound

plays_in_sound : (display : DisplayId) (d : Option Data) → IsSound (plays_in display d)
plays_in_sound display None = body_sound
plays_in_sound display (Some d) = plays_sound display (plays_body_in d)

range_sound : (b : Bool) (from to : ℕ) → IsSound (if b then Refuse refusal.Range else Report from to)
range_sound true from to = λ e. absurd (omega (arith, e))
range_sound false from to = tt

asked_sound : (a : Asked) (body : List ℕ) → IsSound (call_for a body)
asked_sound asked.Edits body = edit_in_sound (json_at body)
asked_sound (asked.Piece media offset) body = tt
asked_sound (asked.Report from to) body = range_sound (nat_lt to from) from to
asked_sound (asked.Enrol display) body = tt
asked_sound (asked.Manifest display) body = tt
asked_sound (asked.File display media offset) body = tt
asked_sound (asked.Plays display) body = plays_in_sound display (json_at body)

key_sound : (b : Bool) (a : Asked) (body : List ℕ) → IsSound (if b then call_for a body else Refuse refusal.Key)
key_sound true a body = asked_sound a body
key_sound false a body = λ e. absurd (omega (arith, e))

pub call_sound : (operator : List ℕ) (rows : List Kept) (r : Result Asked RouteFault) (key : Option (List ℕ)) (body : List ℕ) → IsSound (call_by operator rows r key body)
call_sound operator rows (Ok a) key body = key_sound (may_ask operator rows a key) a body
call_sound operator rows (Err route_fault.Path) key body = λ e. absurd (omega (arith, e))
call_sound operator rows (Err (route_fault.Method verb)) key body = tt

-- ---- methods

known_verb : (r : Route) → verb_for r ≢ Other
known_verb route.Edits = λ e. cc
known_verb route.Media = λ e. cc
known_verb route.Report = λ e. cc
known_verb route.Enrol = λ e. cc
known_verb route.Manifest = λ e. cc
known_verb route.File = λ e. cc
known_verb route.Plays = λ e. cc

abbrev NamesMethod : Result Asked RouteFault → Type 0
NamesMethod (Ok a) = ⊤
NamesMethod (Err route_fault.Path) = ⊤
NamesMethod (Err (route_fault.Method verb)) = verb ≢ Other

names_or : (o : Option Asked) → NamesMethod (ok_or o route_fault.Path)
names_or None = tt
names_or (Some a) = tt

names_by : (b : Bool) (o : Option Asked) (r : Route) → NamesMethod (if b then ok_or o route_fault.Path else Err (route_fault.Method (verb_for r)))
names_by true o r = names_or o
names_by false o r = known_verb r

names_route : (verb : Verb) (target : List (List ℕ)) (r : Option Route) → NamesMethod (ask_route verb target r)
names_route verb target None = tt
names_route verb target (Some r) = names_by (is_verb (verb_for r) verb) (asked_at r target) r

names_if : (b : Bool) (x : Result Asked RouteFault) → NamesMethod x → NamesMethod (if b then Err route_fault.Path else x)
names_if true x h = tt
names_if false x h = h

names_method : (verb : Verb) (target : List ℕ) → NamesMethod (ask verb target)
names_method verb target = names_if (list_any (λ b. b == 63) target) _ (names_route verb (segments target) (route_of (segments target)))

-- the method that a path takes is a known one
pub other_known : (verb other : Verb) (target : List ℕ) → ask verb target ≡ Err (route_fault.Method other) → other ≢ Other
other_known verb used target is = subst NamesMethod is (names_method verb target)
