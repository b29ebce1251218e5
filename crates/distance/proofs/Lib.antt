mod Laws
mod Call
