-- What was read has its form.
use Rattle.reg_terms.specs.declared.request.Request.{Request}
use Rattle.reg_json.specs.Forms.{IsFormed}
use Rattle.reg_service.specs.Turn.{HasForm}

-- that of its fields, and that of its key
pub has_form : (request : Request) → IsFormed request → HasForm request
has_form request formed = record { fields = formed.fields; key = formed.key }
