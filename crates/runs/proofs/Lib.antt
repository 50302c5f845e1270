mod Going
mod Plainly
mod VirtualBytes
mod Moments
mod History
mod Keeping
mod Twinned
mod Doubling
