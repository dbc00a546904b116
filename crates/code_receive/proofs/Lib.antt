-- What the code of the receive unit rests on.
mod Laws
