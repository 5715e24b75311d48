-- What holds of a request that was read. Who asks may be any text.
use Rattle.std.specs.Prelude.{◌≡◌, true}
use Rattle.reg_ops.specs.Forms.{key_fits, op_has_form, op_takes_key}
use Rattle.reg_terms.specs.declared.request.Request.{Request}

-- the fields of what is asked have their forms, and its key, which a command alone has
pub record IsFormed (request : Request) : Type 0 where
  pub fields : op_has_form request.op ≡ true
  pub key : key_fits (op_takes_key request.op) request.key ≡ true
