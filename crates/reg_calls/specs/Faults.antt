-- Refusals of messages that ask nothing of the service.
use Rattle.reg_terms.specs.declared.refusal.Refusal.{Refusal}
use Rattle.reg_terms.specs.declared.refusal.Refusal.TheVariants.{TooLong, NoRoute, NoMethod}
use Rattle.reg_terms.specs.declared.refusal.Refusal.TheVariants.{NoLength, Coding, HeadTooLong}
use Rattle.reg_terms.specs.declared.refusal.Refusal.TheVariants.{NoCallerHeader, BadHead}
use Rattle.reg_terms.specs.Limits.{max_line}
use Rattle.reg_http.specs.declared.call.HeadFault.{HeadFault}
use Rattle.reg_http.specs.declared.call.HeadFault.TheVariants as fault

-- the path has no route
abbrev pub no_route : Refusal
no_route = NoRoute

-- the route has another method
abbrev pub no_method : Refusal
no_method = NoMethod

-- not exactly one caller is named
abbrev pub no_caller_header : Refusal
no_caller_header = NoCallerHeader

-- why a head isn't taken
abbrev pub refusal_of : HeadFault → Refusal
refusal_of fault.HeadTooLong = HeadTooLong
refusal_of fault.BadHead = BadHead
refusal_of fault.Coding = Coding
refusal_of fault.TooLong = TooLong max_line
refusal_of fault.NoLength = NoLength
